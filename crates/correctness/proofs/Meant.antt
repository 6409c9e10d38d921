-- The code that an accepted compilation leaves runs as the rule means.
-- Assumes nothing.
use mathlib.Core.Path.{◌≡◌, refl, ◌∙◌, sym, ap, ap₂, subst}
use mathlib.Core.List.{List}
use Prim.Native.Nat.{ℕ, ◌-◌, ◌*◌, ◌%◌, ◌≤◌}
use native.Mathlib.Omega.{arith}
use lib.ListN.{length, take}
use borrow.Author.Tests.{le-leb}
use Rattle.word.specs.Word.{Words}
use Rattle.instruction.proofs.Forms.{words_taken}
use Rattle.machine.specs.declared.Ending.{Ending}
use Rattle.machine.specs.declared.Ending.TheVariants.{Faulted}
use Rattle.machine.specs.Run.{Ran, run_of}
use Rattle.machine.specs.Entry.{ended, state_of, sizes_of, run_shown, run_entry}
use Rattle.rule.specs.Tree.{Com, Binding}
use Rattle.rule.specs.Table.{binding_of, program}
use Rattle.correctness.specs.Meaning.{Outcome, done, fault, out, left_of, rule_meaning}
use Rattle.compiler.specs.Pool.{registers_of}
use Rattle.compiler.specs.Answer.{accepted, compiled, leaves}
use Rattle.correctness.specs.Demand3.{ending_of, AsMeant}
use Rattle.correctness.proofs.Meanings.{faults_with_4}
use Rattle.correctness.proofs.Program.{RanAsMeant, program_right}
use Rattle.correctness.proofs.Tables.{binding_fit, program_words}
use Rattle.correctness.proofs.Acceptance.{pool_said, need_enough, cells_said, small_said, length_code, code_left}

-- a run of allowed sizes is not refused
pub run_entered : (C R m : List ℕ) (n budget : ℕ) → length C ≡ n * 4 → n * 4 ≤ 262144 → length m ≤ 65536
    → run_entry C m (state_of 0 R) budget ≡ run_shown budget (run_of C budget 0 R m)
unfolding run_entry sizes_of
run_entered C R m n budget e h k =
    let r : length C % 4 ≡ 0 = omega arith in
    let l : length C ≤ 262144 = omega arith in
    rw (words_taken (length C) r l, le-leb (length m) 65536 k)

-- and shows how it went
shows : (F R : List ℕ) (budget : ℕ) (o : Outcome (Unit {0})) (x : Ran) → RanAsMeant F R o x → AsMeant F R budget o (run_shown budget x)
shows F R budget o x h =
    record {
      said = ap₂ (λ (e : Ending) (l : ℕ). ended e (budget - l)) h.ending h.left;
      memory = h.memory;
      registers = h.registers;
    }

-- an outcome that is told as a fault is told as 4
pub faulted_as_meant : (ρ : ℕ → Binding) (c : Com) (m : List ℕ) (budget f steps : ℕ)
    → ended (ending_of (rule_meaning ρ c m budget)) (budget - left_of (rule_meaning ρ c m budget)) ≡ ended (Faulted f) steps → f ≡ 4
faulted_as_meant ρ c m budget f steps = go (rule_meaning ρ c m budget) refl
  where
    go : (o : Outcome (Unit {0})) → rule_meaning ρ c m budget ≡ o → ended (ending_of o) (budget - left_of o) ≡ ended (Faulted f) steps → f ≡ 4
    go (done _ m' l) e h = let z : ◌≡◌ {A = ℕ} 0 1 = cc in absurd (omega arith)
    go (fault n m' l) e h = let k : n ≡ f = cc in sym k ∙ faults_with_4 ρ c m m' budget l n e
    go (out m') e h = let z : ◌≡◌ {A = ℕ} 0 1 = cc in absurd (omega arith)

module _ (ds ns : List ℕ) (pool : ℕ) (code : List ℕ) (n c k : ℕ) (wd : Words ds) (wn : Words ns)
    (said : compiled ds ns pool (length code) ≡ accepted n c k) where
  -- the run of the code that is left, with what it leaves of its budget
  ran_as_meant : (R m : List ℕ) (budget : ℕ) → length R ≡ 64
      → RanAsMeant (registers_of pool) R (rule_meaning (binding_of ds) (program ns) m budget) (run_of (take (n * 4) (leaves ds ns pool code)) budget 0 R m)
  ran_as_meant R m budget l =
      rw (code_left ds ns pool code n c k said)
      (program_right (binding_of ds) (λ x. binding_fit ds x wd (cells_said ds ns pool code n c k said x)) (program ns) (program_words ns wn)
      (registers_of pool) (pool_said ds ns pool code n c k said) (need_enough ds ns pool code n c k said) R m budget l)

  pub length_left : length (take (n * 4) (leaves ds ns pool code)) ≡ n * 4
  length_left = ap length (code_left ds ns pool code n c k said) ∙ length_code ds ns pool code n c k said

  pub meant : (R m : List ℕ) (budget : ℕ) → length R ≡ 64 → length m ≤ 65536
      → AsMeant (registers_of pool) R budget (rule_meaning (binding_of ds) (program ns) m budget)
      (run_entry (take (n * 4) (leaves ds ns pool code)) m (state_of 0 R) budget)
  meant R m budget l cells =
      let C : List ℕ = take (n * 4) (leaves ds ns pool code) in
      let o = rule_meaning (binding_of ds) (program ns) m budget in
      subst (AsMeant (registers_of pool) R budget o) (sym (run_entered C R m n budget length_left (small_said ds ns pool code n c k said) cells))
      (shows (registers_of pool) R budget o (run_of C budget 0 R m) (ran_as_meant R m budget l))
