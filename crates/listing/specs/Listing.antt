-- The listing of a code, what `list` answers and what it leaves in the text. 02-change-requests.md, Item 1.
use Rattle.std.specs.Prelude.{Bool, true, false, cond, not, ◌||◌, List, [], ◌++◌, ℕ, zero, suc, eqb, ltb, leb, length, Option, Some, None, Result, Ok, Err}
use Rattle.refusal.specs.declared.Refusal.{Refusal}
use Rattle.refusal.specs.Refusal.{Verdict, Passes, Refuses, number_of, value_of, ◌and_then◌, first_refused, laid_over}
use Rattle.instruction.specs.declared.Form.{Form}
use Rattle.instruction.specs.declared.Form.TheVariants.{Unknown, Bare, Registers, Immediate, Load, Store, Jump, Branch}
use Rattle.instruction.specs.Instruction.{Instruction, ins, operation_of, form_of, Fetched, outside, unknown, found, fetch, count_of, taken}
use Rattle.listing.specs.Line.{label_part, instruction_line}

-- the label that an instruction names, if it is a jump: "any label", whether or not the jump would be taken
abbrev pub named_by : Form → ℕ → ℕ → ℕ → Option ℕ
named_by Unknown a b c = None
named_by Bare a b c = None
named_by Registers a b c = None
named_by Immediate a b c = None
named_by Load a b c = None
named_by Store a b c = None
named_by Jump l b c = Some l
named_by Branch a b l = Some l

abbrev pub target_of : Instruction → Option ℕ
target_of (ins o a b c) = named_by (form_of (operation_of o)) a b c

abbrev pub leads_to : Option ℕ → ℕ → Bool
leads_to None p = false
leads_to (Some l) p = eqb l p

abbrev pub jumps_to : Fetched → ℕ → Bool
jumps_to outside p = false
jumps_to unknown p = false
jumps_to (found i) p = leads_to (target_of i) p

-- "A line that some jump names": one of the first n instructions names p
unfoldable pub named_in : List ℕ → ℕ → ℕ → Bool
named_in code zero p = false
named_in code (suc n) p = named_in code n p || jumps_to (fetch code n) p

-- "one instruction a line"
abbrev pub line_of : Bool → ℕ → Fetched → List ℕ
line_of named p outside = []
line_of named p unknown = []
line_of named p (found i) = label_part named p ++ instruction_line i

abbrev pub line : List ℕ → ℕ → List ℕ
line code p = line_of (named_in code (count_of code) p) p (fetch code p)

-- the first n lines
unfoldable pub lines : List ℕ → ℕ → List ℕ
lines code zero = []
lines code (suc n) = lines code n ++ line code n

abbrev pub listing : List ℕ → List ℕ
listing code = lines code (count_of code)

-- "13 as for a run"
unfoldable pub code_words : ℕ → Verdict
code_words words = cond (taken words) Passes (Refuses 13 0)

-- not "a fault 2 form, or any label outside the code", which has n instructions
abbrev pub inside : ℕ → Option ℕ → Bool
inside n None = true
inside n (Some l) = ltb l n

abbrev pub sound : ℕ → Fetched → Bool
sound n outside = false
sound n unknown = false
sound n (found i) = inside n (target_of i)

-- "21 with the lowest such instruction's number"
unfoldable pub instructions : List ℕ → Verdict
instructions code = first_refused (λ p. 21) (λ p. not (sound (count_of code) (fetch code p))) (count_of code)

-- "22 if the text buffer is too short, with the bytes needed"
unfoldable pub room_for : ℕ → ℕ → Verdict
room_for needed room = cond (leb needed room) Passes (Refuses 22 needed)

-- "in that order"
unfoldable pub verdict : List ℕ → ℕ → Verdict
verdict code room = code_words (length code) and_then instructions code and_then room_for (length (listing code)) room

-- the bytes written, or a refusal's number with the number returned
pub data Said : Type 0 where
  listed : ℕ → Said
  refused : ℕ → ℕ → Said

abbrev pub list_said : Result ℕ Refusal → Said
list_said (Ok n) = listed n
list_said (Err r) = refused (number_of r) (value_of r)

abbrev pub said_as : ℕ → Verdict → Said
said_as n Passes = listed n
said_as n (Refuses m v) = refused m v

unfoldable pub answered : List ℕ → ℕ → Said
answered code room = said_as (length (listing code)) (verdict code room)

-- "Bytes beyond the listing stay"; "Each leaves the text buffer untouched"
abbrev pub text_as : List ℕ → List ℕ → Said → List ℕ
text_as bs text (listed n) = laid_over bs text
text_as bs text (refused n v) = text

unfoldable pub leaves : List ℕ → List ℕ → List ℕ
leaves code text = text_as (listing code) text (answered code (length text))
