-- What `compile` answers and what it leaves in the code buffer. 01-scope.md, "Numbered refusals, in order".
use Rattle.std.specs.Prelude.{cond, List, ℕ, ◌+◌, ◌*◌, ◌%◌, eqb, leb, length, Result, Ok, Err}
use Rattle.instruction.specs.Instruction.{assemble}
use Rattle.refusal.specs.declared.Refusal.{Refusal}
use Rattle.rule.specs.Table.{first_cell, binding_of, declaration_rows, program}
use Rattle.refusal.specs.Refusal.{Verdict, Passes, Refuses, number_of, value_of, ◌and_then◌, laid_over}
use Rattle.rule.specs.Check.{node_words, declaration_words, declarations, rows, used_once}
use Rattle.compiler.specs.declared.Accepted.{Accepted}
use Rattle.compiler.specs.Pool.{registers_of}
use Rattle.compiler.specs.Compile.{need_com, size_com, t_prog}

-- "An acceptance returns the instruction count, the cell count and the need"; a refusal its number and the number returned
pub data Said : Type 0 where
  accepted : ℕ → ℕ → ℕ → Said
  refused : ℕ → ℕ → Said

-- "If an answer is an enum, a definition gives this paper's number and values for each of its cases. The promises use that definition."
abbrev pub compile_said : Result Accepted Refusal → Said
compile_said (Ok a) = accepted a.instructions a.cells a.need
compile_said (Err r) = refused (number_of r) (value_of r)

-- 3: "pool bit 0 set"
unfoldable pub pool_bit : ℕ → Verdict
pool_bit pool = cond (eqb (pool % 2) 0) Passes (Refuses 3 0)

-- 11: "too few registers", with the need
unfoldable pub enough : ℕ → ℕ → Verdict
enough need count = cond (leb need count) Passes (Refuses 11 need)

-- 12: "code buffer has fewer than four words for each instruction", with the instructions needed
unfoldable pub room_for : ℕ → ℕ → Verdict
room_for instructions words = cond (leb (instructions * 4) words) Passes (Refuses 12 instructions)

-- n instructions, c cells and the need k, unless a check refuses
abbrev pub said_as : ℕ → ℕ → ℕ → Verdict → Said
said_as n c k Passes = accepted n c k
said_as n c k (Refuses m v) = refused m v

module _ (ds ns : List ℕ) where
  -- the program's need, its instructions with the halt, and the cells of its declarations
  abbrev pub need : ℕ
  need = need_com (binding_of ds) (program ns)

  abbrev pub instructions : ℕ
  instructions = size_com (binding_of ds) (program ns) + 1

  abbrev pub cells : ℕ
  cells = first_cell ds (declaration_rows ds)

  -- refusals 11 and 12, which come last
  abbrev pub rest : ℕ → ℕ → Verdict
  rest pool words = enough need (length (registers_of pool)) and_then room_for instructions words

  -- refusals 1 to 12 in their order
  unfoldable pub verdict : ℕ → ℕ → Verdict
  verdict pool words =
      node_words (length ns)
      and_then declaration_words (length ds)
      and_then pool_bit pool
      and_then declarations ds
      and_then rows ds ns
      and_then used_once ns
      and_then enough need (length (registers_of pool))
      and_then room_for instructions words

  -- what `compile` says of them
  unfoldable pub compiled : ℕ → ℕ → Said
  compiled pool words = said_as instructions cells need (verdict pool words)

-- "A refused compilation changes no word"; "code words beyond the count keep their contents"
abbrev pub buffer_as : List ℕ → List ℕ → Said → List ℕ
buffer_as ws code (accepted n c k) = laid_over ws code
buffer_as ws code (refused n v) = code

-- what is left in the buffer
unfoldable pub leaves : List ℕ → List ℕ → ℕ → List ℕ → List ℕ
leaves ds ns pool code =
    buffer_as (assemble (t_prog (binding_of ds) (program ns) (registers_of pool))) code (compiled ds ns pool (length code))
