-- What the listing's inner functions ask of each other. No promise of `list` rests on this page.
use Rattle.std.specs.Prelude.{◌≡◌, Bool, true, false, List, ◌++◌, ℕ, ◌+◌, ◌<◌, ◌≤◌, length, get_or, set, Option, Some, None}
use Rattle.std.proofs.lemmas.List.Edits.{sets}
use Rattle.refusal.specs.Refusal.{Passes}
use Rattle.instruction.specs.declared.Instruction as code
use Rattle.instruction.specs.Instruction.{Instruction, ins, operation_number, operation_of, form_of, taken}
use Rattle.listing.specs.declared.line.Line.{Line}
use Rattle.listing.specs.declared.line.Text.{Text}
use Rattle.listing.specs.Line.{operand_words, blanked, label_part, instruction_line}
use Rattle.listing.specs.Listing.{named_in, instructions}

-- the most instructions of a code that is taken, and the most bytes of a line
abbrev pub most : ℕ
most = 65536

abbrev pub longest : ℕ
longest = 33

-- an instruction that was read, in the words of the specification
abbrev pub ins_of : code.Instruction → Instruction
ins_of i = ins (operation_number i.operation) i.a i.b i.c

-- the bytes of the words after its mnemonic
abbrev pub operands_text : code.Instruction → List ℕ
operands_text i = blanked (operand_words (form_of (operation_of (operation_number i.operation))) i.a i.b i.c)

-- the bytes of a line
abbrev pub line_text : Line → List ℕ
line_text l = label_part l.named l.place ++ instruction_line (ins_of l.instruction)

-- refusals 13 and 21 are not given
pub record Sound (code : List ℕ) : Type 0 where
  pub words : taken (length code) ≡ true
  pub instructions : instructions code ≡ Passes

-- room in the text t for the bytes c
pub record Room (t : Text) (c : List ℕ) : Type 0 where
  pub fits : t.at + length c ≤ length t.bytes.now

-- u is the text t with the bytes c written
pub record Wrote (t u : Text) (c : List ℕ) : Type 0 where
  pub same : u.bytes.ghost_name ≡ t.bytes.ghost_name
  pub size : length u.bytes.now ≡ length t.bytes.now
  pub next : u.at ≡ t.at + length c
  pub text : u.bytes.now ≡ sets t.bytes.now t.at c

-- the marks with a label's set
abbrev pub marked : Option ℕ → List Bool → List Bool
marked None marks = marks
marked (Some l) marks = set marks l true

-- the marks are set that one of the first n instructions names
pub record Marked (code : List ℕ) (n : ℕ) (marks : List Bool) : Type 0 where
  pub size : length marks ≡ most
  pub mark : (p : ℕ) → p < most → get_or marks p false ≡ named_in code n p
