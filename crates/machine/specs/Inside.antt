-- What the machine's inner functions ask of each other and answer. No promise of `step` or `run` rests on this page.
use Rattle.std.specs.Prelude.{◌≡◌, ℕ, suc, ◌<◌, ◌≤◌, List, length, slice_index, Option, Some, None, Result, Ok, Err}
use Rattle.refusal.specs.declared.Refusal.{Refusal}
use Rattle.word.specs.Word.{Cell, At, Nowhere}
use Rattle.instruction.specs.declared.Instruction.{Instruction}
use Rattle.instruction.specs.Instruction.{operation_number, operation_of, form_of, register, number, label, Operands, three, operands_of}
use Rattle.machine.specs.declared.Move.{Move}
use Rattle.machine.specs.declared.Ending.{Ending}
use Rattle.machine.specs.declared.Ended.{Ended}
use Rattle.machine.specs.declared.Taken.{Taken}
use Rattle.machine.specs.Faults.{fault_number}
use Rattle.machine.specs.Step.{Next, Go, Halt, Fault, wrote_next, wrote_registers}

-- "There are 64 registers, $0 to $63"
abbrev pub Register : ℕ → Type 0
Register r = r < 64

-- a run clears place 0 of the registers, so that $0 reads as 0
-- `Cleared` and `Few` are asked of each function and are no field of a struct: registers and memory are lent by reference, and a struct that holds a `&mut` would promise its reference at each step; no plainer
abbrev pub Cleared : List ℕ → Type 0
Cleared g = slice_index g 0 ≡ 0

-- no "memory above 65,536 cells"
abbrev pub Few : List ℕ → Type 0
Few m = length m ≤ 65536

-- how the three words of an instruction are written
abbrev pub operands : Instruction → Operands
operands i = operands_of (form_of (operation_of (operation_number i.operation)))

-- three registers
abbrev pub ThreeRegisters : Instruction → Type 0
ThreeRegisters i = operands i ≡ three register register register

-- a register, a number and a register
abbrev pub NumberBetween : Instruction → Type 0
NumberBetween i = operands i ≡ three register number register

-- two registers and a label
abbrev pub TwoRegisters : Instruction → Type 0
TwoRegisters i = operands i ≡ three register register label

-- where each case of `Move` leads from place p
abbrev pub moved : ℕ → Move → Next
moved p Move.On = Go (suc p)
moved p (Move.To q) = Go q
moved p Move.Halt = Halt
moved p (Move.Fault f) = Fault (fault_number f)

-- from every place, v is written to register a of g, which leaves h; or that faults
abbrev pub Wrote : ℕ → ℕ → List ℕ → List ℕ → Move → Type 0
Wrote a v g h x = ((p : ℕ) → moved p x ≡ wrote_next p a) × (h ≡ wrote_registers a v g)

-- the cell that a place in the memory stands for
abbrev pub cell_said : Option ℕ → Cell
cell_said (Some i) = At i
cell_said None = Nowhere

-- how a single step went, by the ending of a run under the budget 1
abbrev pub taken_of : Ending → Taken
taken_of Ending.Halted = Taken.Halted
taken_of (Ending.Faulted f) = Taken.Faulted f
taken_of Ending.Unfinished = Taken.Went

-- and what it answers, by what that run answers
abbrev pub stepped_of : Result Ended Refusal → Result Taken Refusal
stepped_of (Ok e) = Ok (taken_of e.ending)
stepped_of (Err r) = Err r
