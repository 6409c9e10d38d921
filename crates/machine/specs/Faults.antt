-- The numbers of the faults, in the order of a step's checks.
use Rattle.std.specs.Prelude.{ℕ}
use Rattle.machine.specs.declared.fault.Fault.{Fault}
use Rattle.machine.specs.declared.fault.Fault.TheVariants.{PlaceOutside, NoInstruction, ZeroWritten, AddressOutside, LabelOutside}

-- 1, "place outside the code"; 2, "unknown operation, an unused word not 0, or a register number outside 0..63"; 3, "a result written to
-- $0"; 4, "load or store address outside memory"; 5, "a jump that is taken to a number outside the code"
abbrev pub fault_number : Fault → ℕ
fault_number PlaceOutside = 1
fault_number NoInstruction = 2
fault_number ZeroWritten = 3
fault_number AddressOutside = 4
fault_number LabelOutside = 5
