-- What the two entry points answer, in the paper's numbers. 01-scope.md, "The machine" and "Numbered refusals".
use Rattle.std.specs.Prelude.{ℕ, ◌-◌, Bool, cond, List, length, nat_le, Result, Ok, Err}
use Rattle.refusal.specs.declared.Refusal.{Refusal}
use Rattle.refusal.specs.Refusal.{Verdict, Passes, Refuses, number_of, value_of}
use Rattle.instruction.specs.Instruction.{taken}
use Rattle.machine.specs.declared.State.{State}
use Rattle.machine.specs.declared.Ending.{Ending}
use Rattle.machine.specs.declared.Ended.{Ended}
use Rattle.machine.specs.declared.Taken.{Taken}
use Rattle.machine.specs.Step.{Next, Go, Halt, Fault, Did, step_of}
use Rattle.machine.specs.Run.{Ran, run_of}

-- what is said: a refusal's number with the number returned, an ending with the steps taken, or how a single step went
pub data Said : Type 0 where
  refused : ℕ → ℕ → Said
  ended : Ending → ℕ → Said
  went : Said
  halted : Said
  faulted : ℕ → Said

-- the paper's numbers and values for a run's answer
abbrev pub run_said : Result Ended Refusal → Said
run_said (Ok e) = ended e.ending e.steps
run_said (Err r) = refused (number_of r) (value_of r)

-- and of a step's
abbrev pub step_said : Result Taken Refusal → Said
step_said (Ok Taken.Went) = went
step_said (Ok Taken.Halted) = halted
step_said (Ok (Taken.Faulted f)) = faulted f
step_said (Err r) = refused (number_of r) (value_of r)

-- the state of a place and registers
abbrev pub state_of : ℕ → List ℕ → State
state_of p g = record { place = p; registers = g }

-- what is said, with the state and the memory that are left
pub record Shown : Type 0 where
  pub said : Said
  pub state : State
  pub memory : List ℕ

-- the same, by its parts
abbrev pub shown : Said → State → List ℕ → Shown
shown x s m = record { said = x; state = s; memory = m }

-- refusal 14 is for "memory above 65,536 cells"
abbrev pub cells_taken : ℕ → Bool
cells_taken cells = nat_le cells 65536

-- "13 comes before 14"
unfoldable pub sizes_of : ℕ → ℕ → Verdict
sizes_of words cells = cond (taken words) (cond (cells_taken cells) Passes (Refuses 14 0)) (Refuses 13 0)

-- "A refused run or step hands the state back as it came, with no step taken."
abbrev pub entered : Verdict → Shown → State → List ℕ → Shown
entered Passes accepted s m = accepted
entered (Refuses n k) accepted s m = shown (refused n k) s m

-- "A run answers with its ending, the steps taken and the state left."
abbrev pub run_shown : ℕ → Ran → Shown
run_shown budget r = shown (ended r.ending (budget - r.left)) (state_of r.place r.registers) r.memory

-- a run of the code from a state under a budget, refused or not
unfoldable pub run_entry : List ℕ → List ℕ → State → ℕ → Shown
run_entry code m s budget =
    entered (sizes_of (length code) (length m)) (run_shown budget (run_of code budget s.place s.registers m)) s m

-- "A step gives the next state, a halt, or a fault. Halt ... keeps its place."
abbrev pub step_shown : ℕ → Next → List ℕ → List ℕ → Shown
step_shown p (Go q) g m = shown went (state_of q g) m
step_shown p Halt g m = shown halted (state_of p g) m
step_shown p (Fault f) g m = shown (faulted f) (state_of p g) m

-- a single step of the code from a state, refused or not
unfoldable pub step_entry : List ℕ → List ℕ → State → Shown
step_entry code m s =
    let d : Did = step_of code s.place s.registers m in
    entered (sizes_of (length code) (length m)) (step_shown s.place d.next d.registers d.memory) s m
