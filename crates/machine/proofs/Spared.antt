-- A register that no instruction of a code writes: whatever state a run of it starts from, it holds at the end what it held.
-- Assumes nothing.
use Rattle.std.proofs.Common.{◌≡◌, ℕ, zero, suc, Bool, true, false, cond, eqb, List, length, get_or, set, refl, ◌∙◌, get_or-set_other}
use borrow.Author.Tests.{eqb-false}
use Rattle.word.specs.Word.{Cell, At, Nowhere}
use Rattle.instruction.specs.Instruction.{Instruction, ins, jmp, Fetched, outside, unknown, found, fetch, count_of}
use Rattle.machine.specs.declared.State.{State}
use Rattle.refusal.specs.Refusal.{Verdict, Passes, Refuses}
use Rattle.machine.specs.Step.{Next, Go, Halt, Fault, Did, did, wrote_registers, loads, stores, read_of, cell_at, rules, perform, tried, step_of}
use Rattle.machine.specs.Run.{follow, run_of}
use Rattle.machine.specs.Entry.{Shown, sizes_of, entered, run_shown, run_entry}
use Rattle.machine.proofs.Places.{All, looked_up}

-- of what was fetched, if it is an instruction
abbrev pub IfFound : (Instruction → Type 0) → Fetched → Type 0
IfFound P outside = Unit {0}
IfFound P unknown = Unit {0}
IfFound P (found i) = P i

module _ (j : ℕ) where
  -- register j of h is that of g
  abbrev Kept : List ℕ → List ℕ → Type 0
  Kept g h = get_or h j 0 ≡ get_or g j 0

  -- the instruction leaves register j as it is, in every code and from every state
  pub record Spares (i : Instruction) : Type 0 where
    pub kept : (n p : ℕ) (g m : List ℕ) → Kept g (perform n p g m i).registers

  -- t is not j, or it is $0, which is never written
  abbrev pub Other : ℕ → Type 0
  Other t = j ≡ t → t ≡ 0

  module _ (n p : ℕ) (g m : List ℕ) (a : ℕ) (other : Other a) where
    wrote : (v : ℕ) → Kept g (wrote_registers a v g)
    wrote v = go (eqb a 0) refl
      where
        go : (t : Bool) → eqb a 0 ≡ t → Kept g (cond t g (set g a v))
        go true e = refl
        go false e = get_or-set_other g a j v 0 (λ q. eqb-false a 0 e (other q))

    loaded : (x : Cell) → Kept g (loads p a x g m).registers
    loaded (At i) = wrote (get_or m i 0)
    loaded Nowhere = refl

    stored : (v : ℕ) (x : Cell) → Kept g (stores p v x g m).registers
    stored v (At i) = refl
    stored v Nowhere = refl

    performed : (o b c : ℕ) → Kept g (perform n p g m (ins o a b c)).registers
    unfolding perform
    performed o b c = looked_up (λ d. Kept g d.registers) (rules n p g m a b c) (did (Fault 2) g m) each refl o
      where
        each : All (λ d. Kept g d.registers) (rules n p g m a b c)
        each = (refl, (refl, (wrote _, (wrote _, (wrote _, (wrote _, (loaded (cell_at g m b c), (stored (read_of g c) (cell_at g m a b), (refl, (refl, (refl, (wrote _, tt))))))))))))

  -- whatever the operation, only its first word is written; and a jump writes none
  pub spares_other : {o a b c : ℕ} → Other a → Spares (ins o a b c)
  spares_other {o} {a} {b} {c} h = record { kept = λ n p g m. performed n p g m a h o b c }

  pub spares_jmp : {l : ℕ} → Spares (ins jmp l 0 0)
  unfolding perform
  spares_jmp = record { kept = λ n p g m. refl }

  -- a code that, from every place, fetches only such instructions
  module _ (code : List ℕ) (spared : (p : ℕ) → IfFound Spares (fetch code p)) where
    tried_kept : (n p : ℕ) (g m : List ℕ) (f : Fetched) → IfFound Spares f → Kept g (tried n p g m f).registers
    unfolding tried
    tried_kept n p g m outside h = refl
    tried_kept n p g m unknown h = refl
    tried_kept n p g m (found i) h = h.kept n p g m

    pub step_kept : (p : ℕ) (g m : List ℕ) → Kept g (step_of code p g m).registers
    unfolding step_of
    step_kept p g m = tried_kept (count_of code) p g m (fetch code p) (spared p)

    followed : (k p : ℕ) → ((q : ℕ) (g m : List ℕ) → Kept g (run_of code k q g m).registers) → (x : Next) (g m : List ℕ)
        → Kept g (follow (run_of code k) k p x g m).registers
    followed k p ih (Go q) g m = ih q g m
    followed k p ih Halt g m = refl
    followed k p ih (Fault f) g m = refl

    pub run_kept : (k p : ℕ) (g m : List ℕ) → Kept g (run_of code k p g m).registers
    unfolding run_of
    run_kept zero p g m = refl
    run_kept (suc k) p g m =
        let d : Did = step_of code p g m in
        followed k p (run_kept k) d.next d.registers d.memory ∙ step_kept p g m

    pub spared_kept : (m : List ℕ) (s : State) (budget : ℕ) → get_or (run_entry code m s budget).state.registers j 0 ≡ get_or s.registers j 0
    unfolding run_entry
    spared_kept m s budget = go (sizes_of (length code) (length m)) (run_shown budget (run_of code budget s.place s.registers m)) (run_kept budget s.place s.registers m)
      where
        -- whether the run is refused or not
        go : (x : Verdict) (r : Shown) → Kept s.registers r.state.registers → Kept s.registers (entered x r s m).state.registers
        go Passes r h = cc
        go (Refuses n k) r h = cc
