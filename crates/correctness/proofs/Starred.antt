-- The starred examples of 01-scope.md, one table and one proof: under each sentence, what the definitions that the contracts cite compute to, and what is due.
-- Assumes nothing.
use mathlib.Core.Path.{◌≡◌, refl}
use mathlib.Core.List.{List, [], ◌∷◌, ◌++◌, map}
use Prim.Native.Nat.{ℕ, suc, ◌-◌, ◌*◌, ◌^◌}
use lib.IntN.{ℤ, pos, negsuc}
use lib.ListN.{get_or, replicate, take}
use Rattle.word.specs.Word.{signed, word_of, sum_of, difference_of, product_of, less_of, address_of, cell_of}
use Rattle.instruction.specs.Instruction.{operations, operation_of, formed, decode, encode, assemble, fetch, taken}
use Rattle.instruction.specs.Instruction.{halt, nop, add, addi, sub, mul, store, beq, slt}
use Rattle.machine.specs.declared.Ending.TheVariants.{Halted, Unfinished}
use Rattle.machine.specs.Step.{read_of, perform, tried, step_of}
use Rattle.machine.specs.Run.{run_of}
use Rattle.machine.specs.Entry.{Said, ended, went, faulted, Shown, state_of, sizes_of, run_entry, step_entry}
use Rattle.rule.specs.Table.{first_cell, binding_of, built, entry, exp_at, com_at, program}
use Rattle.refusal.specs.Refusal.{lowest_from}
use Rattle.rule.specs.Check.{node_words, declaration_words, declarations, row_no, rows, uses, used_once}
use Rattle.correctness.specs.Meaning.{Outcome, eval, turns, exec, rule_meaning}
use Rattle.compiler.specs.Pool.{registers_from, registers_of}
use Rattle.compiler.specs.Compile.{need_exp, need_com, size_exp, size_com, t_exp, t_com, t_prog}
use Rattle.compiler.specs.Answer as Compiler
use Rattle.compiler.specs.Answer.{accepted, refused, pool_bit, enough, room_for, verdict, compiled, leaves}
use Rattle.correctness.specs.Demand3.{ending_of, left_of, memory_of}

-- what a line is about: a compilation's answer; it with the buffer that is left; how a run or a rule ends, with the memory that it leaves;
-- how a step went, with the place, $1 and the memory that it leaves
pub data Result : Type 0 where
  answering : Compiler.Said → Result
  compiling : Compiler.Said → List ℕ → Result
  ending : Said → List ℕ → Result
  stepping : Said → ℕ → ℤ → List ℕ → Result

-- what is computed, and what is due
pub data Line : Type 0 where
  ◌is◌ : Result → Result → Line

infix 70 ◌is◌
abbrev pub computed : Line → Result
computed (c is d) = c

abbrev pub due : Line → Result
due (c is d) = d

-- "Declaration row 0 is a variable x, memory is one cell holding 0, and registers start at 0, unless a line says otherwise."
abbrev x : List ℕ
x = 2 ∷ 0 ∷ []

-- "Pool 1-5" means $1 to $5
abbrev to : ℕ → ℕ
to n = 2 ^ suc n - 2

abbrev minus : ℕ → ℤ
minus n = negsuc (n - 1)

-- a row of nodes, or an instruction
abbrev row : ℕ → ℕ → ℕ → ℕ → List ℕ
row k a b c = k ∷ a ∷ b ∷ c ∷ []

-- The rules

-- x := 2
abbrev two : List ℕ
two = row 1 2 0 0 ++ row 17 0 0 0

-- x := 9 - (5 - 2)
abbrev nine : List ℕ
nine = row 1 9 0 0 ++ row 1 5 0 0 ++ row 1 2 0 0 ++ row 5 1 2 0 ++ row 5 0 3 0 ++ row 17 0 4 0

-- x := not 0
abbrev not_zero : List ℕ
not_zero = row 1 0 0 0 ++ row 11 0 0 0 ++ row 17 0 1 0

abbrev skips : List ℕ
skips = row 16 0 0 0

-- while x do skip
abbrev loops : List ℕ
loops = row 2 0 0 0 ++ row 16 0 0 0 ++ row 21 0 1 0

-- A rule compiled into a buffer of some words, each 7; its code; the code's run and the rule's own meaning, with x given, under a budget

abbrev answers : List ℕ → ℕ → Result
answers ns pool = answering (compiled x ns pool 40)

abbrev compiles : List ℕ → ℕ → ℕ → Result
compiles ns pool words = compiling (compiled x ns pool words) (leaves x ns pool (replicate words 7))

abbrev count : Compiler.Said → ℕ
count (accepted n c k) = n
count (refused n v) = 0

abbrev code : List ℕ → ℕ → List ℕ
code ns pool = take (count (compiled x ns pool 40) * 4) (leaves x ns pool (replicate 40 7))

abbrev runs : List ℕ → ℕ → ℕ → ℕ → Result
runs ns pool v budget =
    let r : Shown = run_entry (code ns pool) (v ∷ []) (state_of 0 (replicate 64 0)) budget in
    ending r.said r.memory

abbrev means : List ℕ → ℕ → ℕ → Result
means ns v budget =
    let o : Outcome (Unit {0}) = rule_meaning (binding_of x) (program ns) (v ∷ []) budget in
    ending (ended (ending_of o) (budget - left_of o)) (memory_of o)

-- one step of an instruction before a halt, where $1 holds 5, $2 and $3 the two numbers given, and the one cell 7
abbrev steps : ℕ → ℕ → ℕ → ℕ → ℤ → ℤ → Result
steps o a b c v w =
    let r : Shown = step_entry (row o a b c ++ row halt 0 0 0) (7 ∷ []) (state_of 0 (0 ∷ 5 ∷ word_of v ∷ word_of w ∷ replicate 60 0)) in
    stepping r.said r.state.place (signed (get_or r.state.registers 1 0)) r.memory

abbrev pub table : List Line
table =
    -- "x := 2, rows (1,2,0,0) (17,0,0,0), pool 1-2: (3,1,2,0) (3,2,0,0) (7,2,0,1) (0,0,0,0)."
    compiles two (to 2) 18 is compiling (accepted 4 1 2) (row 3 1 2 0 ++ row 3 2 0 0 ++ row 7 2 0 1 ++ row 0 0 0 0 ++ replicate 2 7)
    -- "Budget 2 leaves x; 3 sets it, unfinished; 4 halts."
    ∷ runs two (to 2) 0 2 is ending (ended Unfinished 2) (0 ∷ [])
    ∷ means two 0 2 is ending (ended Unfinished 2) (0 ∷ [])
    ∷ runs two (to 2) 0 3 is ending (ended Unfinished 3) (2 ∷ [])
    ∷ means two 0 3 is ending (ended Unfinished 3) (2 ∷ [])
    ∷ runs two (to 2) 0 4 is ending (ended Halted 4) (2 ∷ [])
    ∷ means two 0 4 is ending (ended Halted 4) (2 ∷ [])
    -- "The same, pool 1: refusal 11, need 2."
    ∷ compiles two (to 1) 18 is compiling (refused 11 2) (replicate 18 7)
    -- "x := 9 - (5 - 2), pool 1-5: addi $2 9 $0; addi $4 5 $0; addi $5 2 $0; sub $3 $4 $5; sub $1 $2 $3; addi $2 0 $0; store $2[$0] $1; halt."
    ∷ compiles nine (to 5) 32
    is compiling (accepted 8 1 5)
    (row addi 2 9 0 ++ row addi 4 5 0 ++ row addi 5 2 0 ++ row sub 3 4 5 ++ row sub 1 2 3 ++ row addi 2 0 0 ++ row store 2 0 1 ++ row halt 0 0 0)
    -- "x = 6."
    ∷ runs nine (to 5) 0 100 is ending (ended Halted 8) (6 ∷ [])
    ∷ means nine 0 100 is ending (ended Halted 8) (6 ∷ [])
    -- "Pool 1-4: refusal 11, need 5."
    ∷ compiles nine (to 4) 32 is compiling (refused 11 5) (replicate 32 7)
    -- "x := not 0, pool 1-2: 7 instructions, 6 steps, x = 1."
    ∷ answers not_zero (to 2) is answering (accepted 7 1 2)
    ∷ runs not_zero (to 2) 0 100 is ending (ended Halted 6) (1 ∷ [])
    ∷ means not_zero 0 100 is ending (ended Halted 6) (1 ∷ [])
    -- "skip with an empty pool: nop, halt; 2 steps."
    ∷ compiles skips (to 0) 8 is compiling (accepted 2 1 0) (row nop 0 0 0 ++ row halt 0 0 0)
    ∷ runs skips (to 0) 0 100 is ending (ended Halted 2) (0 ∷ [])
    ∷ means skips 0 100 is ending (ended Halted 2) (0 ∷ [])
    -- "while x do skip, x = 0, pool 1-2: 6 instructions, 4 steps."
    ∷ answers loops (to 2) is answering (accepted 6 1 2)
    ∷ runs loops (to 2) 0 100 is ending (ended Halted 4) (0 ∷ [])
    ∷ means loops 0 100 is ending (ended Halted 4) (0 ∷ [])
    -- "With x = 1 budgets 5 and 10 are unfinished"
    ∷ runs loops (to 2) 1 5 is ending (ended Unfinished 5) (1 ∷ [])
    ∷ means loops 1 5 is ending (ended Unfinished 5) (1 ∷ [])
    ∷ runs loops (to 2) 1 10 is ending (ended Unfinished 10) (1 ∷ [])
    ∷ means loops 1 10 is ending (ended Unfinished 10) (1 ∷ [])
    -- "2147483647 + 1 = -2147483648; 46341 * 46341 = -2147479015; -2147483648 * -1 = -2147483648."
    ∷ steps add 1 2 3 (pos 2147483647) (pos 1) is stepping went 1 (minus 2147483648) (7 ∷ [])
    ∷ steps mul 1 2 3 (pos 46341) (pos 46341) is stepping went 1 (minus 2147479015) (7 ∷ [])
    ∷ steps mul 1 2 3 (minus 2147483648) (minus 1) is stepping went 1 (minus 2147483648) (7 ∷ [])
    -- "slt of -1 and 0 gives 1."
    ∷ steps slt 1 2 3 (minus 1) (pos 0) is stepping went 1 (pos 1) (7 ∷ [])
    -- "Base 2147483647, index 1: fault 4. Base 65535, index -65535: cell 0."
    ∷ steps store 2 3 1 (pos 2147483647) (pos 1) is stepping (faulted 4) 0 (pos 5) (7 ∷ [])
    ∷ steps store 2 3 1 (pos 65535) (minus 65535) is stepping went 1 (pos 5) (5 ∷ [])
    -- "beq not taken with label 99 in a code of 2: goes on. Taken: fault 5."
    ∷ steps beq 2 3 99 (pos 1) (pos 2) is stepping went 1 (pos 5) (7 ∷ [])
    ∷ steps beq 2 3 99 (pos 1) (pos 1) is stepping (faulted 5) 0 (pos 5) (7 ∷ [])
    ∷ []

pub starred : map computed table ≡ map due table
unfolding signed word_of sum_of difference_of product_of less_of address_of cell_of operations operation_of formed decode encode assemble fetch taken read_of perform tried step_of run_of sizes_of run_entry step_entry first_cell binding_of built entry exp_at com_at lowest_from node_words declaration_words declarations row_no rows uses used_once eval turns exec rule_meaning registers_from registers_of need_exp need_com size_exp size_com t_exp t_com t_prog pool_bit enough room_for verdict compiled leaves
starred = refl
