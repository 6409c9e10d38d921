-- The rule of the minutes, x := a - (b - c): however it is compiled, it halts after 11 steps and x is a - (b - c).
-- Assumes nothing.
use mathlib.Core.Path.{◌≡◌, ◌∙◌, ap}
use mathlib.Core.List.{List, [], ◌∷◌}
use Prim.Native.Nat.{ℕ, ◌*◌, ◌<◌, ◌≤◌}
use native.Mathlib.Omega.{arith}
use lib.IntN.{pos}
use lib.ListN.{length, get_or, set, take}
use lib.Seq.{get_or-set_same}
use borrow.Author.Tests.{lt-ltb}
use Rattle.word.specs.Word.{difference_of, cell_of, At}
use Rattle.machine.specs.declared.Ending.TheVariants.{Halted}
use Rattle.machine.specs.Entry.{ended, Shown, state_of, run_entry}
use Rattle.rule.specs.Table.{first_cell, binding_of, built, entry, exp_at, com_at, program}
use Rattle.correctness.specs.Meaning.{eval, exec, rule_meaning}
use Rattle.compiler.specs.Compile.{size_exp, size_com}
use Rattle.compiler.specs.Answer.{accepted, compiled, leaves}
use Rattle.correctness.specs.Halting.{RuleHalts, RunHalts}
use Rattle.correctness.proofs.Acceptance.{count_said}
use Rattle.correctness.proofs.HaltsAlike.{halts_alike}

-- four variables: x, a, b and c at the cells 0 to 3
abbrev pub names : List ℕ
names = 2 ∷ 0 ∷ 2 ∷ 0 ∷ 2 ∷ 0 ∷ 2 ∷ 0 ∷ []

-- a, b and c; b - c, a - (b - c); the assignment
abbrev pub rule : List ℕ
rule =
    2 ∷ 1 ∷ 0 ∷ 0
    ∷ 2 ∷ 2 ∷ 0 ∷ 0
    ∷ 2 ∷ 3 ∷ 0 ∷ 0
    ∷ 5 ∷ 1 ∷ 2 ∷ 0
    ∷ 5 ∷ 0 ∷ 3 ∷ 0
    ∷ 17 ∷ 0 ∷ 4 ∷ 0
    ∷ []

abbrev pub wanted : List ℕ → ℕ
wanted m = difference_of (get_or m 1 0) (difference_of (get_or m 2 0) (get_or m 3 0))

cell_low : (a n : ℕ) → a < n → cell_of (pos a) n ≡ At a
unfolding cell_of
cell_low a n h = rw (lt-ltb a n h)

means : (m : List ℕ) → 4 ≤ length m → RuleHalts (binding_of names) (program rule) m 11 11 (set m 0 (wanted m))
unfolding rule_meaning exec eval binding_of first_cell com_at exp_at entry built
means m h =
    record {
      within = omega arith;
      means = rw (cell_low 1 (length m) (omega arith), cell_low 2 (length m) (omega arith), cell_low 3 (length m) (omega arith), cell_low 0 (length m) (omega arith));
    }

module _ (pool : ℕ) (code : List ℕ) (n c k : ℕ) (said : compiled names rule pool (length code) ≡ accepted n c k) where
  eleven : n ≡ 11
  unfolding size_com size_exp binding_of first_cell com_at exp_at entry built
  eleven = count_said names rule pool code n c k said

  pub minutes : (R m : List ℕ) → length R ≡ 64 → 4 ≤ length m → length m ≤ 65536 → (budget : ℕ) → 11 ≤ budget
      → ((run_entry (take (n * 4) (leaves names rule pool code)) m (state_of 0 R) budget).said ≡ ended Halted 11)
      × ((run_entry (take (n * 4) (leaves names rule pool code)) m (state_of 0 R) budget).memory ≡ set m 0 (wanted m))
      × (get_or (run_entry (take (n * 4) (leaves names rule pool code)) m (state_of 0 R) budget).memory 0 0 ≡ wanted m)
  minutes R m r low high budget b =
      let C : List ℕ = take (n * 4) (leaves names rule pool code) in
      let e : n ≡ 11 = eleven in
      let a = halts_alike names rule pool code n c k (omega arith) (omega arith) said R m r high in
      let x : RunHalts C R m 11 11 (set m 0 (wanted m)) = a.run_if_rule 11 11 (set m 0 (wanted m)) (means m low) in
      let l : run_entry C m (state_of 0 R) budget ≡ run_entry C m (state_of 0 R) 11 = a.run_lasts 11 11 (set m 0 (wanted m)) x budget b in
      let s : (run_entry C m (state_of 0 R) budget).memory ≡ set m 0 (wanted m) = ap (λ (y : Shown). y.memory) l ∙ x.memory in (
        ap (λ (y : Shown). y.said) l ∙ x.said,
        s,
        ap (λ (y : List ℕ). get_or y 0 0) s ∙ get_or-set_same m 0 (wanted m) 0 (omega arith),
      )
