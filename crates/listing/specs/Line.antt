-- A line of a listing: an instruction in the notation of source document 000, in bytes. 02-change-requests.md, Item 1.
use Rattle.std.specs.Prelude.{Bool, true, false, List, [], ◌∷◌, ◌++◌, ℕ}
use Rattle.decimal.specs.Bytes.{bytes}
use Rattle.decimal.specs.Decimal.{numeral}
use Rattle.instruction.specs.declared.Form.{Form}
use Rattle.instruction.specs.declared.Form.TheVariants.{Unknown, Bare, Registers, Immediate, Load, Store, Jump, Branch}
use Rattle.instruction.specs.Instruction.{Instruction, ins, operation_of, mnemonic_of, form_of}

-- "registers as $5"
abbrev pub register_word : ℕ → List ℕ
register_word k = bytes "$" ++ numeral k

-- "load as `load $1 $2[$0]`, store as `store $2[$0] $1`"
abbrev pub address_word : ℕ → ℕ → List ℕ
address_word b i = register_word b ++ (bytes "[" ++ (register_word i ++ bytes "]"))

-- "L, its number ... and jumps name it so"
abbrev pub label_word : ℕ → List ℕ
label_word l = bytes "L" ++ numeral l

-- the words after the mnemonic, "add a b c; addi a N c; ... load a b i; store b i a; jmp L; bne a b L"
abbrev pub operand_words : Form → ℕ → ℕ → ℕ → List (List ℕ)
operand_words Unknown a b c = []
operand_words Bare a b c = []
operand_words Registers a b c = register_word a ∷ register_word b ∷ register_word c ∷ []
operand_words Immediate a n c = register_word a ∷ numeral n ∷ register_word c ∷ []
operand_words Load a b i = register_word a ∷ address_word b i ∷ []
operand_words Store b i a = address_word b i ∷ register_word a ∷ []
operand_words Jump l b c = label_word l ∷ []
operand_words Branch a b l = register_word a ∷ register_word b ∷ label_word l ∷ []

-- "One blank parts the words"
abbrev pub blanked : List (List ℕ) → List ℕ
blanked [] = []
blanked (w ∷ ws) = (bytes " " ++ w) ++ blanked ws

-- "lower-case mnemonics"; "a newline byte ends each line"
unfoldable pub instruction_line : Instruction → List ℕ
instruction_line (ins o a b c) =
    bytes (mnemonic_of (operation_of o)) ++ (blanked (operand_words (form_of (operation_of o)) a b c) ++ bytes "\n")

-- "A line that some jump names starts with L, its number, a colon and a blank"
abbrev pub label_part : Bool → ℕ → List ℕ
label_part true p = label_word p ++ bytes ": "
label_part false p = []
