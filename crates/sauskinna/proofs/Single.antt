-- A single step's words are those of a run under the budget 1, where a run that is unfinished went on.
-- Assumes nothing.
use mathlib.Core.Path.{◌≡◌, refl, sym, ◌∙◌, ap}
use mathlib.Core.Bool.{Bool, true, false, cond}
use mathlib.Core.List.{List, [], ◌∷◌}
use Prim.Native.Nat.{ℕ}
use lib.Dec.{eqb}
use lib.ListN.{get_or, set}
use borrow.Author.Tests.{eq-eqb, ne_eqb}
use Rattle.machine.specs.declared.State.{State}
use Rattle.machine.specs.Entry.{Shown, run_entry, step_entry}
use Rattle.machine.proofs.Entries.{step_beside_run}
use Rattle.sauskinna.specs.Words.{Left, left, in_words}

-- an answer of a run, as a step's: 0, went on, for 3, unfinished
abbrev pub went_on : List ℕ → List ℕ
went_on a = cond (eqb (get_or a 0 0) 3) (set a 0 0) a

abbrev pub as_step : Left → Left
as_step x = left x.number (went_on x.answer) x.state x.memory

pub step_words : (code m : List ℕ) (s : State) → in_words (step_entry code m s) ≡ as_step (in_words (run_entry code m s 1))
step_words = step_beside_run (λ (x y : Shown). in_words x ≡ as_step (in_words y)) (λ n s m. refl) goes halts faults
  where
    goes : (s : State) (m : List ℕ) → left 0 (0 ∷ 0 ∷ 1 ∷ []) s m ≡ left 0 (went_on (3 ∷ 0 ∷ 1 ∷ [])) s m
    goes s m = refl

    halts : (s : State) (m : List ℕ) → left 0 (1 ∷ 0 ∷ 1 ∷ []) s m ≡ left 0 (went_on (1 ∷ 0 ∷ 1 ∷ [])) s m
    halts s m = refl

    faults : (f : ℕ) (s : State) (m : List ℕ) → left 0 (2 ∷ f ∷ 0 ∷ []) s m ≡ left 0 (went_on (2 ∷ f ∷ 0 ∷ [])) s m
    faults f s m = refl

-- what a run under the budget 1 has left, by the first word of its answer
module _ (code m : List ℕ) (s : State) (n : ℕ) (a : List ℕ) (t : State) (l : List ℕ) (h : left n a t l ≡ in_words (run_entry code m s 1)) where
  told : (b : Bool) → eqb (get_or a 0 0) 3 ≡ b → left n (cond b (set a 0 0) a) t l ≡ in_words (step_entry code m s)
  told b e = ap (λ (x : Bool). left n (cond x (set a 0 0) a) t l) (sym e) ∙ ap as_step h ∙ sym (step_words code m s)

  pub unfinished : get_or a 0 0 ≡ 3 → left n (set a 0 0) t l ≡ in_words (step_entry code m s)
  unfinished e = told true (eq-eqb (get_or a 0 0) 3 e)

  pub finished : (get_or a 0 0 ≡ 3 → ⊥) → left n a t l ≡ in_words (step_entry code m s)
  finished e = told false (ne_eqb (get_or a 0 0) 3 e)
