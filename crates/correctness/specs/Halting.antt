-- What it is for a rule, and for a run, to end under a budget; and that a code ends exactly as a rule does.
-- Assumes nothing.
use Rattle.std.specs.Prelude.{◌≡◌, List, ℕ, ◌-◌, ◌≤◌}
use Rattle.machine.specs.declared.Ending.TheVariants.{Halted}
use Rattle.machine.specs.Entry.{ended, state_of, run_entry}
use Rattle.rule.specs.Tree.{Com, Binding}
use Rattle.correctness.specs.Meaning.{done, rule_meaning}

-- the rule c is done under the budget after some steps, with the memory m'
pub record RuleHalts (ρ : ℕ → Binding) (c : Com) (m : List ℕ) (budget steps : ℕ) (m' : List ℕ) : Type 0 where
  pub within : steps ≤ budget
  pub means : rule_meaning ρ c m budget ≡ done tt m' (budget - steps)

-- the run of a code from place 0 and the registers R halts under the budget after some steps, with the memory m'
pub record RunHalts (code R m : List ℕ) (budget steps : ℕ) (m' : List ℕ) : Type 0 where
  pub said : (run_entry code m (state_of 0 R) budget).said ≡ ended Halted steps
  pub memory : (run_entry code m (state_of 0 R) budget).memory ≡ m'

-- under some budget
abbrev pub RuleHaltsSometime : (ℕ → Binding) → Com → List ℕ → Type 0
RuleHaltsSometime ρ c m = (b : ℕ) × (s : ℕ) × (m' : List ℕ) × RuleHalts ρ c m b s m'

abbrev pub RunHaltsSometime : List ℕ → List ℕ → List ℕ → Type 0
RunHaltsSometime code R m = (b : ℕ) × (s : ℕ) × (m' : List ℕ) × RunHalts code R m b s m'

-- under some legal budget: "A budget is 0 to 4,294,967,295."
abbrev pub RuleHaltsLegally : (ℕ → Binding) → Com → List ℕ → Type 0
RuleHaltsLegally ρ c m = (b : ℕ) × (b ≤ 4294967295) × (s : ℕ) × (m' : List ℕ) × RuleHalts ρ c m b s m'

abbrev pub RunHaltsLegally : List ℕ → List ℕ → List ℕ → Type 0
RunHaltsLegally code R m = (b : ℕ) × (b ≤ 4294967295) × (s : ℕ) × (m' : List ℕ) × RunHalts code R m b s m'

-- under a budget one halts exactly when the other does, after as many steps and with the same memory; and what has halted under a budget
-- halts so under every larger one, where the run shows the same
pub record HaltAlike (ρ : ℕ → Binding) (c : Com) (code R m : List ℕ) : Type 0 where
  pub run_if_rule : (b s : ℕ) (m' : List ℕ) → RuleHalts ρ c m b s m' → RunHalts code R m b s m'
  pub rule_if_run : (b s : ℕ) (m' : List ℕ) → RunHalts code R m b s m' → RuleHalts ρ c m b s m'
  pub run_lasts : (b s : ℕ) (m' : List ℕ) → RunHalts code R m b s m' → (d : ℕ) → b ≤ d
      → run_entry code m (state_of 0 R) d ≡ run_entry code m (state_of 0 R) b
  pub rule_lasts : (b s : ℕ) (m' : List ℕ) → RuleHalts ρ c m b s m' → (d : ℕ) → b ≤ d → RuleHalts ρ c m d s m'
