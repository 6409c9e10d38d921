-- Operators and cells: the instructions of an expression beyond those of its parts run as the meaning says.
-- Assumes nothing.
use mathlib.Core.Path.{◌≡◌, refl, ◌∙◌, ap₂}
use mathlib.Core.Bool.{Bool, true, false, cond, not, ◌&&◌, ◌||◌}
use mathlib.Core.List.{List, [], ◌∷◌}
use Prim.Native.Nat.{ℕ, suc, ◌+◌, ◌<◌}
use native.Mathlib.Omega.{arith}
use lib.Dec.{eqb}
use lib.IntN.{ℤ}
use lib.ListN.{length, set, length-set}
use Rattle.word.specs.Word.{Word, sum_of, difference_of, product_of, less_of, address_of}
use Rattle.instruction.specs.Instruction.{ins, found, fetch, count_of, addi, load}
use Rattle.machine.specs.Step.{read_of, perform}
use Rattle.rule.specs.Tree.{Op, plus, minus, times, less, equal, both, either}
use Rattle.correctness.specs.Meaning.{◌>>◌, return, spend, read, flag, steps, result}
use Rattle.compiler.specs.Compile.{after, size_op, operator_code, not_code}
use Rattle.correctness.proofs.Frame.{Within, keep_set, keep_read, widen, read_set}
use Rattle.correctness.proofs.Sim.{Runs, runs_return}
use Rattle.correctness.proofs.Steps.{writes_next}
use Rattle.correctness.proofs.Instructions.{runs_next, runs_addi, runs_jump, beq_taken, beq_passed, bne_taken, bne_passed, runs_load}
use Rattle.correctness.proofs.Places.{At}
use Rattle.correctness.proofs.LeftOperand.{Apart}

-- the post of an expression: its value is in the target
abbrev pub Holds : ℕ → ℕ → List ℕ → Type 0
Holds r v S = read_of S r ≡ v

module _ (C G : List ℕ) (r t u q v w : ℕ) (S : List ℕ) (l : length S ≡ 64) (hr : 0 < r) (lr : r < 64)
    (et : read_of S t ≡ v) (eu : read_of S u ≡ w) where
  -- after the target is written the operands still hold
  kept : ((t ≡ r) → ⊥) → ((u ≡ r) → ⊥) → (x : ℕ) → (read_of (set S r x) t ≡ v) × (read_of (set S r x) u ≡ w) × (length (set S r x) ≡ 64)
  kept nt nu x =
      (keep_read (keep_set [] S r x) t (nt, tt) ∙ et, keep_read (keep_set [] S r x) u (nu, tt) ∙ eu, length-set S r x ∙ l)

  set_runs : {s x : ℕ} (T : List ℕ) → length T ≡ 64 → fetch C s ≡ found (ins addi r x 0) → Word x
      → Runs C (r ∷ G) (suc s) (Holds r) T s (spend 1 >> return x)
  set_runs {x} T k h f = runs_addi h hr f (keep_set G T r x) (λ m. refl) (runs_return (read_set T r x k hr lr))

  equal_runs : At C q (operator_code equal r t u q) → q + 4 < count_of C → (b : Bool) → eqb v w ≡ b
      → Runs C (r ∷ G) (after 4 q) (Holds r) S q (spend (cond b 2 3) >> return (flag b))
  equal_runs h n true e = beq_taken h.0 et eu e (omega arith) (λ m. refl) (set_runs S l h.1.1.1.0 (omega arith))
  equal_runs h n false e =
      beq_passed h.0 et eu e (λ m. refl)
      (runs_addi h.1.0 hr (omega arith) (keep_set G S r 0) (λ m. refl)
      (runs_jump h.1.1.0 (omega arith) (λ m. refl) (runs_return (read_set S r 0 l hr lr))))

  both_runs : Apart both r t u → At C q (operator_code both r t u q) → q + 4 < count_of C → (b c : Bool) → eqb v 0 ≡ b → eqb w 0 ≡ c
      → Runs C (r ∷ G) (after 4 q) (Holds r) S q (spend (cond (not b) (cond (not c) 4 3) 2) >> return (flag (not b && not c)))
  unfolding read_of
  both_runs a h n true c eb ec =
      runs_addi h.0 hr (omega arith) (keep_set G S r 0) (λ m. refl)
      (beq_taken h.1.0 (kept a.0 a.1 0).0 refl eb (omega arith) (λ m. refl) (runs_return (read_set S r 0 l hr lr)))
  both_runs a h n false true eb ec =
      runs_addi h.0 hr (omega arith) (keep_set G S r 0) (λ m. refl)
      (beq_passed h.1.0 (kept a.0 a.1 0).0 refl eb (λ m. refl)
      (beq_taken h.1.1.0 (kept a.0 a.1 0).1 refl ec (omega arith) (λ m. refl) (runs_return (read_set S r 0 l hr lr))))
  both_runs a h n false false eb ec =
      runs_addi h.0 hr (omega arith) (keep_set G S r 0) (λ m. refl)
      (beq_passed h.1.0 (kept a.0 a.1 0).0 refl eb (λ m. refl)
      (beq_passed h.1.1.0 (kept a.0 a.1 0).1 refl ec (λ m. refl)
      (set_runs (set S r 0) (kept a.0 a.1 0).2 h.1.1.1.0 (omega arith))))

  either_runs : Apart both r t u → At C q (operator_code either r t u q) → q + 4 < count_of C → (b c : Bool) → eqb v 0 ≡ b → eqb w 0 ≡ c
      → Runs C (r ∷ G) (after 4 q) (Holds r) S q (spend (cond (not b) 2 (cond (not c) 3 4)) >> return (flag (not b || not c)))
  unfolding read_of
  either_runs a h n false c eb ec =
      runs_addi h.0 hr (omega arith) (keep_set G S r 1) (λ m. refl)
      (bne_taken h.1.0 (kept a.0 a.1 1).0 refl eb (omega arith) (λ m. refl) (runs_return (read_set S r 1 l hr lr)))
  either_runs a h n true false eb ec =
      runs_addi h.0 hr (omega arith) (keep_set G S r 1) (λ m. refl)
      (bne_passed h.1.0 (kept a.0 a.1 1).0 refl eb (λ m. refl)
      (bne_taken h.1.1.0 (kept a.0 a.1 1).1 refl ec (omega arith) (λ m. refl) (runs_return (read_set S r 1 l hr lr))))
  either_runs a h n true true eb ec =
      runs_addi h.0 hr (omega arith) (keep_set G S r 1) (λ m. refl)
      (bne_passed h.1.0 (kept a.0 a.1 1).0 refl eb (λ m. refl)
      (bne_passed h.1.1.0 (kept a.0 a.1 1).1 refl ec (λ m. refl)
      (set_runs (set S r 1) (kept a.0 a.1 1).2 h.1.1.1.0 (omega arith))))

  pub operator_runs : (op : Op) → Apart op r t u → At C q (operator_code op r t u q) → q + size_op op < count_of C
      → Runs C (r ∷ G) (after (size_op op) q) (Holds r) S q (spend (steps op v w) >> return (result op v w))
  unfolding perform
  operator_runs plus a h n =
      runs_next h.0 (keep_set G S r _) (λ m. writes_next q r _ S m hr) (λ m. refl) (runs_return (read_set S r _ l hr lr ∙ ap₂ sum_of et eu))
  operator_runs minus a h n =
      runs_next h.0 (keep_set G S r _) (λ m. writes_next q r _ S m hr) (λ m. refl) (runs_return (read_set S r _ l hr lr ∙ ap₂ difference_of et eu))
  operator_runs times a h n =
      runs_next h.0 (keep_set G S r _) (λ m. writes_next q r _ S m hr) (λ m. refl) (runs_return (read_set S r _ l hr lr ∙ ap₂ product_of et eu))
  operator_runs less a h n =
      runs_next h.0 (keep_set G S r _) (λ m. writes_next q r _ S m hr) (λ m. refl)
      (runs_return (read_set S r _ l hr lr ∙ ap₂ (λ (x y : ℕ). flag (less_of x y)) et eu))
  operator_runs equal a h n = equal_runs h n (eqb v w) refl
  operator_runs both a h n = both_runs a h n (eqb v 0) (eqb w 0) refl refl
  operator_runs either a h n = either_runs a h n (eqb v 0) (eqb w 0) refl refl

  pub not_runs : Apart both r t u → At C q (not_code r t q) → q + 3 < count_of C → (b : Bool) → eqb v 0 ≡ b
      → Runs C (r ∷ G) (after 3 q) (Holds r) S q (spend (cond (not b) 3 2) >> return (flag (not (not b))))
  unfolding read_of
  not_runs a h n true e =
      runs_addi h.0 hr (omega arith) (keep_set G S r 1) (λ m. refl)
      (beq_taken h.1.0 (kept a.0 a.1 1).0 refl e (omega arith) (λ m. refl) (runs_return (read_set S r 1 l hr lr)))
  not_runs a h n false e =
      runs_addi h.0 hr (omega arith) (keep_set G S r 1) (λ m. refl)
      (beq_passed h.1.0 (kept a.0 a.1 1).0 refl e (λ m. refl) (set_runs (set S r 1) (kept a.0 a.1 1).2 h.1.1.0 (omega arith)))

-- the two instructions that read a cell: k holds the index, and x is the rule's address
pub read_runs : (C G : List ℕ) (r u k q a : ℕ) (x : ℤ) (S : List ℕ) → length S ≡ 64 → 0 < r → r < 64 → 0 < u → u < 64
    → ((k ≡ u) → ⊥) → Within (u ∷ []) (r ∷ G) → a < 2147483648 → address_of a (read_of S k) ≡ x → At C q (ins addi u a 0 ∷ ins load r u k ∷ [])
    → Runs C (r ∷ G) (after 2 q) (Holds r) S q (spend 1 >> read x)
read_runs C G r u k q a x S l hr lr hu lu n w f e h =
    let T : List ℕ = set S u a in
    let lT : length T ≡ 64 = length-set S u a ∙ l in
    let eu : read_of T u ≡ a = read_set S u a l hu lu in
    let ek : read_of T k ≡ read_of S k = keep_read (keep_set [] S u a) k (n, tt) in
    runs_addi h.0 hu (omega arith) (widen w (keep_set [] S u a)) (λ m. refl)
    (runs_load h.1.0 (λ v. keep_set G T r v) (λ v. read_set T r v lT hr lr) hr (ap₂ address_of eu ek ∙ e))
