-- A run: steps while budget is left. 01-scope.md, "The machine".
use Rattle.std.specs.Prelude.{ℕ, zero, suc, List}
use Rattle.machine.specs.declared.Ending.{Ending}
use Rattle.machine.specs.declared.Ending.TheVariants.{Halted, Faulted, Unfinished}
use Rattle.machine.specs.Step.{Next, Go, Halt, Fault, Did, step_of}

-- an ending, the budget that is left, and the state and the memory that are left
pub record Ran : Type 0 where
  pub ending : Ending
  pub left : ℕ
  pub place : ℕ
  pub registers : List ℕ
  pub memory : List ℕ

-- the same, by its parts
abbrev pub ran : Ending → ℕ → ℕ → List ℕ → List ℕ → Ran
ran e k p g m = record { ending = e; left = k; place = p; registers = g; memory = m }

-- "Halt counts as one step and keeps its place. A fault counts no step and changes nothing": k is what a counted step leaves
abbrev pub follow : (ℕ → List ℕ → List ℕ → Ran) → ℕ → ℕ → Next → List ℕ → List ℕ → Ran
follow rest k p (Go q) g m = rest q g m
follow rest k p Halt g m = ran Halted k p g m
follow rest k p (Fault f) g m = ran (Faulted f) (suc k) p g m

-- from place p with a budget
unfoldable pub run_of : List ℕ → ℕ → ℕ → List ℕ → List ℕ → Ran
run_of code zero p g m = ran Unfinished 0 p g m
run_of code (suc k) p g m =
    let d : Did = step_of code p g m in
    follow (run_of code k) k p d.next d.registers d.memory
