-- Single steps of a run: what the instructions of compiled code do where nothing fails, and the words that they rest on.
-- Assumes nothing.
use mathlib.Core.Path.{◌≡◌, refl, ◌∙◌, sym, ap}
use mathlib.Core.Bool.{Bool, false}
use mathlib.Core.List.{List}
use Prim.Native.Nat.{ℕ, suc, ◌+◌, ◌<◌, ◌%◌}
use native.Mathlib.Omega.{arith}
use lib.Dec.{eqb}
use lib.IntN.{ℤ, pos, ◌+ℤ◌}
use lib.ListN.{set}
use borrow.Author.Tests.{lt-ltb, ne_eqb}
use Rattle.word.specs.Word.{Word, signed, sum_of, address_of, Nowhere}
use Rattle.word.proofs.Biased.{signed_low}
use Rattle.word.proofs.Wraps.{sum_law}
use Rattle.instruction.specs.Instruction.{Instruction, ins, found, fetch, count_of, halt, beq}
use Rattle.machine.specs.declared.Ending.TheVariants.{Halted, Faulted}
use Rattle.machine.specs.Step.{Go, Fault, Did, did, read_of, writes, loads, jumps_to, branches, perform, tried, step_of}
use Rattle.machine.specs.Run.{ran, follow, run_of}

-- Words

pub sum_zero : (v : ℕ) → Word v → sum_of v 0 ≡ v
sum_zero v h =
    let e : (v + 0) % 4294967296 ≡ v = omega arith in
    sym (sum_law v 0 h (omega arith)) ∙ e

-- the machine's address of a cell that is given as a word, and the rule's
pub address_base : (a i : ℕ) → a < 2147483648 → address_of a i ≡ pos a +ℤ signed i
unfolding address_of
address_base a i h = ap (λ (z : ℤ). z +ℤ signed i) (signed_low a (lt-ltb a 2147483648 h))

pub address_cell : (a : ℕ) → a < 2147483648 → address_of a 0 ≡ pos a
address_cell a h =
    let e : a + 0 ≡ a = omega arith in
    address_base a 0 h ∙ ap (λ (z : ℤ). pos a +ℤ z) (signed_low 0 refl) ∙ ap pos e

-- What an instruction does

pub writes_next : (p a v : ℕ) (R m : List ℕ) → 0 < a → writes p a v R m ≡ did (Go (suc p)) (set R a v) m
writes_next p a v R m h = rw (ne_eqb a 0 (omega arith))

pub loads_nowhere : (p a : ℕ) (R m : List ℕ) → 0 < a → loads p a Nowhere R m ≡ did (Fault 4) R m
loads_nowhere p a R m h = rw (ne_eqb a 0 (omega arith))

pub jumps_next : (n L : ℕ) (R m : List ℕ) → L < n → did (jumps_to n L) R m ≡ did (Go L) R m
jumps_next n L R m h = rw (lt-ltb L n h)

-- What a run does

module _ (C : List ℕ) (R m : List ℕ) (p : ℕ) where
  pub performs : {i : Instruction} → fetch C p ≡ found i → step_of C p R m ≡ perform (count_of C) p R m i
  unfolding step_of tried
  performs e = ap (tried (count_of C) p R m) e

  pub goes : {S m' : List ℕ} {s : ℕ} → step_of C p R m ≡ did (Go s) S m' → (c : ℕ) → run_of C (suc c) p R m ≡ run_of C c s S m'
  unfolding run_of
  goes e c = ap (λ (d : Did). follow (run_of C c) c p d.next d.registers d.memory) e

  pub breaks : {n : ℕ} → step_of C p R m ≡ did (Fault n) R m → (c : ℕ) → run_of C (suc c) p R m ≡ ran (Faulted n) (suc c) p R m
  unfolding run_of
  breaks e c = ap (λ (d : Did). follow (run_of C c) c p d.next d.registers d.memory) e

  pub stops : fetch C p ≡ found (ins halt 0 0 0) → (c : ℕ) → run_of C (suc c) p R m ≡ ran Halted c p R m
  unfolding run_of perform
  stops e c = ap (λ (d : Did). follow (run_of C c) c p d.next d.registers d.memory) (performs e)

  -- a branch that is not taken
  pub beq_goes : {a b L : ℕ} → fetch C p ≡ found (ins beq a b L) → eqb (read_of R a) (read_of R b) ≡ false → (c : ℕ)
      → run_of C (suc c) p R m ≡ run_of C c (suc p) R m
  unfolding perform
  beq_goes {L} e d c = goes (performs e ∙ ap (λ (x : Bool). did (branches x (count_of C) p L) R m) d) c
