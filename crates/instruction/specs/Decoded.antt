-- What the code's `decode` answers, in the words of the specification.
use Rattle.std.specs.Prelude.{Option, Some, None}
use Rattle.instruction.specs.declared.Instruction as code
use Rattle.instruction.specs.Instruction.{Fetched, unknown, found, ins, operation_number}

-- four words that are no instruction, or the instruction that was read
abbrev pub fetched_of : Option code.Instruction → Fetched
fetched_of None = unknown
fetched_of (Some i) = found (ins (operation_number i.operation) i.a i.b i.c)
