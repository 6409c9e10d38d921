-- How long a line can be: 8 bytes for its label, 24 for its instruction, and the newline.
-- Assumes nothing.
use mathlib.Core.Path.{◌≡◌, refl, ap}
use mathlib.Core.Bool.{Bool, true, false, ◌&&◌}
use mathlib.Core.List.{List, [], ◌∷◌, ◌++◌}
use Prim.Native.Nat.{ℕ, zero, suc, ◌+◌, ◌<◌, ◌≤◌}
use native.Mathlib.Omega.{arith}
use lib.Dec.{ltb, leb}
use lib.ListN.{length, get_or, length-append}
use borrow.Author.Tests.{ltb-true, leb-true}
use Rattle.decimal.specs.Bytes.{bytes}
use Rattle.decimal.specs.Decimal.{numeral}
use Rattle.decimal.proofs.Numerals.{numeral_short, numeral_within}
use Rattle.instruction.specs.declared.Form.{Form}
use Rattle.instruction.specs.declared.Form.TheVariants.{Unknown, Bare, Registers, Immediate, Load, Store, Jump, Branch}
use Rattle.instruction.specs.Instruction.{Instruction, ins, Operation, operation, operations, operation_of, mnemonic_of, form_of, operands_of, fits, formed}
use Rattle.instruction.proofs.Forms.{and_true, registers_below}
use Rattle.listing.specs.Line.{register_word, address_word, label_word, label_part, operand_words, blanked, instruction_line}
use Rattle.listing.specs.Listing.{named_by, target_of, inside}
use Rattle.listing.specs.Inside.{most, longest}
use Rattle.listing.proofs.Operands.{load_written, store_written}

-- the bytes of a register, and of a label inside the code, each after the byte that stands before it
register_short : (k : ℕ) → k < 64 → length (register_word k) ≤ 3
register_short k h = let n = numeral_within 1 k (omega arith) (omega arith) in omega arith

label_short : (l : ℕ) → l < most → length (label_word l) ≤ 6
label_short l h = let n = numeral_within 4 l (omega arith) (omega arith) in omega arith

address_short : (b i : ℕ) → b < 64 → i < 64 → length (address_word b i) ≤ 8
address_short b i hb hi =
    omega (
      arith,
      register_short b hb,
      register_short i hi,
      length-append (register_word b) (bytes "[" ++ (register_word i ++ bytes "]")),
      length-append (register_word i) (bytes "]"),
    )

-- the most bytes of a form's words
abbrev operands_most : Form → ℕ
operands_most Unknown = 0
operands_most Bare = 0
operands_most Registers = 12
operands_most Immediate = 20
operands_most Load = 13
operands_most Store = 13
operands_most Jump = 7
operands_most Branch = 15

-- three words, each after a blank
three_blanked : (x y z : List ℕ) → length (blanked (x ∷ y ∷ z ∷ [])) ≡ length x + length y + length z + 3
three_blanked x y z =
    omega (
      arith,
      length-append (bytes " " ++ x) (blanked (y ∷ z ∷ [])),
      length-append (bytes " " ++ y) (blanked (z ∷ [])),
      length-append (bytes " " ++ z) [],
    )

operands_short : (f : Form) (n a b c : ℕ) → n ≤ most → fits (operands_of f) a b c ≡ true → inside n (named_by f a b c) ≡ true
    → length (blanked (operand_words f a b c)) ≤ operands_most f
operands_short Unknown n a b c m e i = omega arith
operands_short Bare n a b c m e i = omega arith
operands_short Registers n a b c m e i =
    let r = registers_below a b c e in
    omega (
      arith,
      three_blanked (register_word a) (register_word b) (register_word c),
      register_short a r.0,
      register_short b r.1,
      register_short c r.2,
    )
operands_short Immediate n a b c m e i =
    let r = and_true (ltb a 64) (ltb c 64) e in
    omega (
      arith,
      three_blanked (register_word a) (numeral b) (register_word c),
      register_short a (ltb-true a 64 r.0),
      numeral_short b,
      register_short c (ltb-true c 64 r.1),
    )
operands_short Load n a b c m e i =
    let r = registers_below a b c e in
    omega (
      arith,
      ap length (load_written a b c),
      length-append (bytes " $" ++ numeral a) (bytes " " ++ address_word b c),
      register_short a r.0,
      address_short b c r.1 r.2,
    )
operands_short Store n a b c m e i =
    let r = registers_below a b c e in
    omega (
      arith,
      ap length (store_written a b c),
      length-append (bytes " " ++ address_word a b) (bytes " $" ++ numeral c),
      address_short a b r.0 r.1,
      register_short c r.2,
    )
operands_short Jump n a b c m e i =
    let l = ltb-true a n i in
    omega (arith, length-append (bytes " " ++ label_word a) [], label_short a (omega arith))
operands_short Branch n a b c m e i =
    let r = and_true (ltb a 64) (ltb b 64 && true) e in
    let s = and_true (ltb b 64) true r.1 in
    let l = ltb-true c n i in
    omega (
      arith,
      three_blanked (register_word a) (register_word b) (label_word c),
      register_short a (ltb-true a 64 r.0),
      register_short b (ltb-true b 64 s.0),
      label_short c (omega arith),
    )

-- every row of the table: its mnemonic and its words have at most 24 bytes
abbrev bytes_most : Operation → ℕ
bytes_most x = length (bytes (mnemonic_of x)) + operands_most (form_of x)

abbrev rows_short : List Operation → Bool
rows_short [] = true
rows_short (x ∷ xs) = leb (bytes_most x) 24 && rows_short xs

row_short : (xs : List Operation) (o : ℕ) → rows_short xs ≡ true → bytes_most (get_or xs o (operation "" Unknown)) ≤ 24
row_short [] o e = omega arith
row_short (x ∷ xs) zero e = leb-true (bytes_most x) 24 (and_true (leb (bytes_most x) 24) (rows_short xs) e).0
row_short (x ∷ xs) (suc o) e = row_short xs o (and_true (leb (bytes_most x) 24) (rows_short xs) e).1

operation_short : (o : ℕ) → bytes_most (operation_of o) ≤ 24
unfolding operation_of operations
operation_short o = row_short operations o refl

part_short : (t : Bool) (p : ℕ) → p < most → length (label_part t p) ≤ 8
part_short true p h = omega (arith, length-append (label_word p) (bytes ": "), label_short p h)
part_short false p h = omega arith

pub line_short : (t : Bool) (n p : ℕ) (x : Instruction) → n ≤ most → p < most → formed x ≡ true → inside n (target_of x) ≡ true
    → length (label_part t p ++ instruction_line x) ≤ longest
unfolding instruction_line formed
line_short t n p (ins o a b c) m h e i =
    let w : List ℕ = blanked (operand_words (form_of (operation_of o)) a b c) in
    let k : List ℕ = bytes (mnemonic_of (operation_of o)) in
    omega (
      arith,
      length-append (label_part t p) (k ++ (w ++ bytes "\n")),
      length-append k (w ++ bytes "\n"),
      length-append w (bytes "\n"),
      part_short t p h,
      operation_short o,
      operands_short (form_of (operation_of o)) n a b c m e i,
    )
