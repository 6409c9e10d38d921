-- The example of 02-change-requests.md, Item 1: "x := 2 gives `addi $1 2 $0`, `addi $2 0 $0`, `store $2[$0] $1`, `halt`".
-- Assumes nothing.
use mathlib.Core.Path.{◌≡◌, refl, ap, ◌∙◌}
use mathlib.Core.List.{List, [], ◌∷◌}
use Prim.Native.Nat.{ℕ, ◌*◌, ◌≤◌}
use lib.ListN.{length, take}
use borrow.Author.Tests.{le-leb}
use Rattle.word.specs.Word.{signed}
use Rattle.decimal.specs.Bytes.{bytes}
use Rattle.decimal.specs.Decimal.{digits_in, numeral}
use Rattle.instruction.specs.Instruction.{operations, operation_of, formed, decode, encode, assemble, fetch}
use Rattle.listing.specs.Line.{instruction_line}
use Rattle.listing.specs.Listing.{named_in, lines, listing}
use Rattle.refusal.specs.Refusal.{lowest_from}
use Rattle.rule.specs.Table.{first_cell, binding_of, entry, exp_at, com_at, program}
use Rattle.rule.specs.Check.{node_words, declaration_words, declarations, row_no, rows, uses, used_once}
use Rattle.compiler.specs.Pool.{registers_from, registers_of}
use Rattle.compiler.specs.Compile.{need_exp, need_com, size_exp, size_com, t_exp, t_com, t_prog}
use Rattle.compiler.specs.Answer.{accepted, pool_bit, enough, room_for, verdict, compiled, leaves}
use Rattle.correctness.proofs.Acceptance.{code_left}

-- one variable, x
abbrev pub one_name : List ℕ
one_name = 2 ∷ 0 ∷ []

-- 2; the assignment
abbrev pub two : List ℕ
two = 1 ∷ 2 ∷ 0 ∷ 0 ∷ 17 ∷ 0 ∷ 0 ∷ 0 ∷ []

abbrev four_lines : List ℕ
four_lines = bytes "addi $1 2 $0\naddi $2 0 $0\nstore $2[$0] $1\nhalt\n"

-- with the pool 6, which is $1 and $2
pub two_accepted : (words : ℕ) → 16 ≤ words → compiled one_name two 6 words ≡ accepted 4 1 2
unfolding first_cell entry exp_at com_at lowest_from node_words declaration_words declarations row_no rows uses used_once registers_from registers_of need_exp need_com size_exp size_com pool_bit enough room_for verdict compiled
two_accepted words h = rw (le-leb 16 words h)

program_listed : listing (assemble (t_prog (binding_of one_name) (program two) (registers_of 6))) ≡ four_lines
unfolding signed digits_in numeral operations operation_of formed decode encode assemble fetch instruction_line named_in lines first_cell binding_of entry exp_at com_at registers_from registers_of t_exp t_com t_prog
program_listed = refl

pub two_listed : (code : List ℕ) → 16 ≤ length code → listing (take (4 * 4) (leaves one_name two 6 code)) ≡ four_lines
two_listed code h = ap listing (code_left one_name two 6 code 4 1 2 (two_accepted (length code) h)) ∙ program_listed
