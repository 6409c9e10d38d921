-- The code that an accepted compilation leaves halts exactly when the rule does, after as many steps.
-- Assumes nothing.
use mathlib.Core.Path.{◌≡◌, ◌∙◌, sym, ap}
use mathlib.Core.List.{List}
use Prim.Native.Nat.{ℕ, ◌+◌, ◌-◌, ◌*◌, ◌≤◌}
use native.Mathlib.Omega.{arith}
use lib.ListN.{length, take}
use Rattle.word.specs.Word.{Words}
use Rattle.machine.specs.declared.Ending.TheVariants.{Halted}
use Rattle.machine.specs.Run.{Ran, run_of}
use Rattle.machine.specs.Entry.{ended, Shown, state_of, run_shown, run_entry}
use Rattle.rule.specs.Tree.{Com, Binding}
use Rattle.rule.specs.Table.{binding_of, program}
use Rattle.correctness.specs.Meaning.{Outcome, done, fault, out, left_of, rule_meaning}
use Rattle.compiler.specs.Pool.{registers_of}
use Rattle.compiler.specs.Answer.{accepted, compiled, leaves}
use Rattle.correctness.specs.Demand3.{ending_of, memory_of, AsMeant}
use Rattle.correctness.specs.Halting.{RuleHalts, RunHalts, HaltAlike}
use Rattle.correctness.proofs.Meanings.{never_gains, ends_alike}
use Rattle.correctness.proofs.Meant.{run_entered, length_left, meant}
use Rattle.correctness.proofs.Acceptance.{small_said}
use Rattle.correctness.proofs.Lasting.{shown_more}

-- an outcome that ends in a halt is done
is_done : (o : Outcome (Unit {0})) (b s : ℕ) (m' : List ℕ) → left_of o ≤ b → ended (ending_of o) (b - left_of o) ≡ ended Halted s → memory_of o ≡ m'
    → (s ≤ b) × (o ≡ done tt m' (b - s))
is_done (done _ m l) b s m' h e f =
    let d : b - l ≡ s = cc in
    let i : l ≡ b - s = omega arith in
    (omega arith, ap (done tt m) i ∙ ap (λ (x : List ℕ). done tt x (b - s)) f)
is_done (fault n m l) b s m' h e f = let z : ◌≡◌ {A = ℕ} 0 1 = cc in absurd (omega arith)
is_done (out m) b s m' h e f = let z : ◌≡◌ {A = ℕ} 0 1 = cc in absurd (omega arith)

-- a rule that is done under a budget is so under every larger one
rule_lasts : (ρ : ℕ → Binding) (r : Com) (m : List ℕ) (b s : ℕ) (m' : List ℕ) → RuleHalts ρ r m b s m' → (d : ℕ) → b ≤ d → RuleHalts ρ r m d s m'
rule_lasts ρ r m b s m' h d l =
    let w : s ≤ b = h.within in
    let i : d ≡ b + (d - b) = omega arith in
    let j : b - s + (d - b) ≡ d - s = omega arith in
    record {
      within = omega arith;
      means = ap (rule_meaning ρ r m) i ∙ (ends_alike ρ r m m' b (b - s) (d - b)).0 h.means ∙ ap (done tt m') j;
    }

module _ (ds ns : List ℕ) (pool : ℕ) (code : List ℕ) (n c k : ℕ) (wd : Words ds) (wn : Words ns)
    (said : compiled ds ns pool (length code) ≡ accepted n c k)
    (R m : List ℕ) (registers : length R ≡ 64) (cells : length m ≤ 65536) where
  abbrev Rule : ℕ → ℕ → List ℕ → Type 0
  Rule b s m' = RuleHalts (binding_of ds) (program ns) m b s m'

  abbrev Code : List ℕ
  Code = take (n * 4) (leaves ds ns pool code)

  meant_at : (b : ℕ) → AsMeant (registers_of pool) R b (rule_meaning (binding_of ds) (program ns) m b) (run_entry Code m (state_of 0 R) b)
  meant_at b = meant ds ns pool code n c k wd wn said R m b registers cells

  entered : (b : ℕ) → run_entry Code m (state_of 0 R) b ≡ run_shown b (run_of Code b 0 R m)
  entered b = run_entered Code R m n b (length_left ds ns pool code n c k wd wn said) (small_said ds ns pool code n c k said) cells

  run_if_rule : (b s : ℕ) (m' : List ℕ) → Rule b s m' → RunHalts Code R m b s m'
  run_if_rule b s m' h =
      let w : s ≤ b = h.within in
      let i : b - (b - s) ≡ s = omega arith in
      record {
        said = (meant_at b).said ∙ ap (λ (x : Outcome (Unit {0})). ended (ending_of x) (b - left_of x)) h.means ∙ ap (ended Halted) i;
        memory = (meant_at b).memory ∙ ap memory_of h.means;
      }

  rule_if_run : (b s : ℕ) (m' : List ℕ) → RunHalts Code R m b s m' → Rule b s m'
  rule_if_run b s m' h =
      let o = rule_meaning (binding_of ds) (program ns) m b in
      let d = is_done o b s m' (never_gains (binding_of ds) (program ns) m b) (sym (meant_at b).said ∙ h.said) (sym (meant_at b).memory ∙ h.memory) in
      record { within = d.0; means = d.1 }

  run_lasts : (b s : ℕ) (m' : List ℕ) → RunHalts Code R m b s m' → (d : ℕ) → b ≤ d → run_entry Code m (state_of 0 R) d ≡ run_entry Code m (state_of 0 R) b
  run_lasts b s m' h d l =
      let r : Ran = run_of Code b 0 R m in
      let e : ended r.ending (b - r.left) ≡ ended Halted s = sym (ap (λ (x : Shown). x.said) (entered b)) ∙ h.said in
      let f : r.ending ≡ Halted = cc in
      entered d ∙ shown_more Code b d 0 R m l f ∙ sym (entered b)

  pub halts_alike : HaltAlike (binding_of ds) (program ns) (take (n * 4) (leaves ds ns pool code)) R m
  halts_alike = record { run_if_rule = run_if_rule; rule_if_run = rule_if_run; run_lasts = run_lasts; rule_lasts = rule_lasts (binding_of ds) (program ns) m }
