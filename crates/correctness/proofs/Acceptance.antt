-- What an acceptance says: which numbers are returned, that every check passed, and what is left in the buffer.
-- Assumes nothing.
use mathlib.Core.Path.{◌≡◌, refl, sym, ◌∙◌, ap}
use mathlib.Core.Bool.{Bool, true, false, cond}
use mathlib.Core.List.{List}
use Prim.Native.Nat.{ℕ, ◌+◌, ◌*◌, ◌%◌, ◌≤◌}
use native.Mathlib.Omega.{arith}
use lib.Dec.{eqb, leb}
use lib.ListN.{length, take, drop}
use lib.Seq.{take_at}
use borrow.Author.Tests.{eqb-true, leb-true}
use Rattle.instruction.specs.Instruction.{assemble}
use Rattle.rule.specs.Table.{first_cell, binding_of, declaration_rows, program}
use Rattle.rule.specs.Check.{node_words, declaration_words, declarations, declared, nodes, rows, used_once}
use Rattle.rule.proofs.Verdicts.{both_pass}
use Rattle.rule.proofs.Cells.{cells_fit_always}
use Rattle.refusal.specs.Refusal.{Verdict, Passes, Refuses, ◌and_then◌}
use Rattle.compiler.specs.Pool.{registers_of}
use Rattle.compiler.specs.Compile.{size_com, need_com, t_prog}
use Rattle.compiler.specs.Answer.{Said, accepted, pool_bit, enough, room_for, need, instructions, cells, said_as, verdict, compiled, buffer_as, leaves}
use Rattle.compiler.proofs.Sizes.{size_prog, length_assemble}
use Rattle.compiler.proofs.Ready.{ready}
use Rattle.correctness.proofs.Frame.{Pool}
use Rattle.correctness.proofs.Registers.{pool_registers}

-- two checks that pass, one after the other
both_passed : (a b : Verdict) → a ≡ Passes → b ≡ Passes → a and_then b ≡ Passes
both_passed a b p q = ap (λ (v : Verdict). v and_then b) p ∙ q

-- a check by a test
tested : (t : Bool) (n v : ℕ) → cond t Passes (Refuses n v) ≡ Passes → t ≡ true
tested true n v e = refl
tested false n v e = let z : ◌≡◌ {A = ℕ} 0 1 = cc in absurd (omega arith)

module _ (ds ns : List ℕ) (pool : ℕ) (code : List ℕ) (n c k : ℕ) (said : compiled ds ns pool (length code) ≡ accepted n c k) where
  numbers : (v : Verdict) → said_as (instructions ds ns) (cells ds ns) (need ds ns) v ≡ accepted n c k
      → (v ≡ Passes) × (n ≡ size_com (binding_of ds) (program ns) + 1) × (c ≡ first_cell ds (declaration_rows ds)) × (k ≡ need_com (binding_of ds) (program ns))
  numbers Passes e = (refl, cc, cc, cc)
  numbers (Refuses a b) e = let z : ◌≡◌ {A = ℕ} 0 1 = cc in absurd (omega arith)

  pub passed : verdict ds ns pool (length code) ≡ Passes
  unfolding compiled
  passed = (numbers (verdict ds ns pool (length code)) said).0

  pub count_said : n ≡ size_com (binding_of ds) (program ns) + 1
  unfolding compiled
  count_said = (numbers (verdict ds ns pool (length code)) said).1

  pub need_said : k ≡ need_com (binding_of ds) (program ns)
  unfolding compiled
  need_said = (numbers (verdict ds ns pool (length code)) said).3

  -- the checks that the theorem rests on
  checks : (node_words (length ns) ≡ Passes) × (declaration_words (length ds) ≡ Passes) × (pool_bit pool ≡ Passes) × (declarations ds ≡ Passes)
      × (rows ds ns ≡ Passes) × (used_once ns ≡ Passes)
      × (enough (need ds ns) (length (registers_of pool)) ≡ Passes)
      × (room_for (instructions ds ns) (length code) ≡ Passes)
  unfolding verdict
  checks =
      let v₁ = both_pass (node_words (length ns)) _ passed in
      let v₂ = both_pass (declaration_words (length ds)) _ v₁.1 in
      let v₃ = both_pass (pool_bit pool) _ v₂.1 in
      let v₄ = both_pass (declarations ds) _ v₃.1 in
      let v₅ = both_pass (rows ds ns) _ v₄.1 in
      let v₆ = both_pass (used_once ns) _ v₅.1 in
      let v₇ = both_pass (enough (need ds ns) (length (registers_of pool))) _ v₆.1 in
      (v₁.0, v₂.0, v₃.0, v₄.0, v₅.0, v₆.0, v₇.0, v₇.1)

  pub bit_said : pool % 2 ≡ 0
  unfolding pool_bit
  bit_said = eqb-true (pool % 2) 0 (tested (eqb (pool % 2) 0) 3 0 checks.2)

  pub pool_said : Pool (registers_of pool)
  pool_said = pool_registers pool bit_said

  pub need_enough : need_com (binding_of ds) (program ns) ≤ length (registers_of pool)
  unfolding enough
  need_enough =
      leb-true (need_com (binding_of ds) (program ns)) (length (registers_of pool))
      (tested (leb (need_com (binding_of ds) (program ns)) (length (registers_of pool))) 11 (need_com (binding_of ds) (program ns)) checks.6)

  pub enough_said : k ≤ length (registers_of pool)
  enough_said = omega (arith, need_said, need_enough)

  pub room_said : n * 4 ≤ length code
  unfolding room_for
  room_said =
      let s : ℕ = size_com (binding_of ds) (program ns) + 1 in
      let h : s * 4 ≤ length code = leb-true (s * 4) (length code) (tested (leb (s * 4) (length code)) 12 s checks.7) in
      omega (arith, count_said)

  pub cells_said : (x : ℕ) → first_cell ds x ≤ 65536
  unfolding declared
  cells_said = cells_fit_always ds (both_passed (declaration_words (length ds)) (declarations ds) checks.1 checks.3)

  -- the count is that of T_prog's code, and so small that a run does not refuse it
  pub length_said : length (t_prog (binding_of ds) (program ns) (registers_of pool)) ≡ n
  length_said = size_prog (binding_of ds) (program ns) (registers_of pool) ∙ sym count_said

  nodes_said : nodes ds ns ≡ Passes
  unfolding nodes
  nodes_said = both_passed (node_words (length ns)) _ checks.0 (both_passed (rows ds ns) (used_once ns) checks.4 checks.5)

  pub small_said : n * 4 ≤ 262144
  small_said =
      let h = (ready ds ns (both_passed (node_words (length ns)) (declaration_words (length ds)) checks.0 checks.1) nodes_said).small in
      omega (arith, count_said)

  pub length_code : length (assemble (t_prog (binding_of ds) (program ns) (registers_of pool))) ≡ n * 4
  length_code =
      let F : List ℕ = registers_of pool in
      omega (arith, length_assemble (t_prog (binding_of ds) (program ns) F), size_prog (binding_of ds) (program ns) F, count_said)

  -- the first words of the buffer are the program's
  pub code_left : take (n * 4) (leaves ds ns pool code) ≡ assemble (t_prog (binding_of ds) (program ns) (registers_of pool))
  unfolding leaves
  code_left =
      let ws : List ℕ = assemble (t_prog (binding_of ds) (program ns) (registers_of pool)) in
      ap (λ (s : Said). take (n * 4) (buffer_as ws code s)) said ∙ take_at ws (drop (length ws) code) (n * 4) length_code
