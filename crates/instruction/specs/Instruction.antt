-- Instructions: the operations of source document 000 by the numbers of 01-scope.md, how their words are written, and code as words.
use Rattle.std.specs.Prelude.{◌≡◌, Bool, true, false, cond, ◌&&◌, List, [], ◌∷◌, ◌++◌, ℕ, ◌+◌, ◌*◌, ◌/◌, ◌%◌, ◌<◌, eqb, ltb, leb, length, get_or, Result, MatchResult}
use Prim.Native.String.{String}
use Rattle.instruction.specs.declared.Operation.{Operation as Coded}
use Rattle.instruction.specs.declared.Operation.TheVariants as coded
use Rattle.instruction.specs.declared.UnknownOperation.{UnknownOperation}
use Rattle.instruction.specs.declared.Form.{Form}
use Rattle.instruction.specs.declared.Form.TheVariants.{Unknown, Bare, Registers, Immediate, Load, Store, Jump, Branch}

-- "0 halt; 1 nop; 2 add a b c; 3 addi a N c; 4 sub a b c; 5 mul a b c; 6 load a b i; 7 store b i a; 8 jmp L; 9 bne a b L; 10 beq a b L; 11 slt a b c."
abbrev pub halt : ℕ
halt = 0

abbrev pub nop : ℕ
nop = 1

abbrev pub add : ℕ
add = 2

abbrev pub addi : ℕ
addi = 3

abbrev pub sub : ℕ
sub = 4

abbrev pub mul : ℕ
mul = 5

abbrev pub load : ℕ
load = 6

abbrev pub store : ℕ
store = 7

abbrev pub jmp : ℕ
jmp = 8

abbrev pub bne : ℕ
bne = 9

abbrev pub beq : ℕ
beq = 10

abbrev pub slt : ℕ
slt = 11

-- the number of an operation of the code
abbrev pub operation_number : Coded → ℕ
operation_number coded.Halt = halt
operation_number coded.Nop = nop
operation_number coded.Add = add
operation_number coded.Addi = addi
operation_number coded.Sub = sub
operation_number coded.Mul = mul
operation_number coded.Load = load
operation_number coded.Store = store
operation_number coded.Jmp = jmp
operation_number coded.Bne = bne
operation_number coded.Beq = beq
operation_number coded.Slt = slt

-- what is read from a number: the operation that has it, or the number again where it is above the last operation's
abbrev pub Numbered : ℕ → Result Coded UnknownOperation → Type 0
Numbered n r = MatchResult r (λ o. operation_number o ≡ n) (λ e. (e.0 ≡ n) × (slt < n))

-- what one of an instruction's three words is
pub data Class : Type 0 where
  register number label unused : Class

-- an operation's mnemonic, and its form: how the three words are written
pub data Operation : Type 0 where
  operation : String → Form → Operation

-- the operations in the order of their numbers
unfoldable pub operations : List Operation
operations =
    operation "halt" Bare
    ∷ operation "nop" Bare
    ∷ operation "add" Registers
    ∷ operation "addi" Immediate
    ∷ operation "sub" Registers
    ∷ operation "mul" Registers
    ∷ operation "load" Load
    ∷ operation "store" Store
    ∷ operation "jmp" Jump
    ∷ operation "bne" Branch
    ∷ operation "beq" Branch
    ∷ operation "slt" Registers
    ∷ []

-- the operation of a number; other numbers have none
unfoldable pub operation_of : ℕ → Operation
operation_of o = get_or operations o (operation "" Unknown)

abbrev pub mnemonic_of : Operation → String
mnemonic_of (operation m f) = m

abbrev pub form_of : Operation → Form
form_of (operation m f) = f

-- the three words of a form
pub data Operands : Type 0 where
  none : Operands
  three : Class → Class → Class → Operands

abbrev pub operands_of : Form → Operands
operands_of Unknown = none
operands_of Bare = three unused unused unused
operands_of Registers = three register register register
operands_of Immediate = three register number register
operands_of Load = three register register register
operands_of Store = three register register register
operands_of Jump = three label unused unused
operands_of Branch = three register register label

-- "There are 64 registers, $0 to $63"; "unused words 0"
abbrev pub is_of : Class → ℕ → Bool
is_of register w = ltb w 64
is_of number w = true
is_of label w = true
is_of unused w = eqb w 0

abbrev pub fits : Operands → ℕ → ℕ → ℕ → Bool
fits none a b c = false
fits (three x y z) a b c = is_of x a && (is_of y b && is_of z c)

-- "Code: four words an instruction": the operation and its three words
pub data Instruction : Type 0 where
  ins : ℕ → ℕ → ℕ → ℕ → Instruction

-- no "unknown operation, an unused word not 0, or a register number outside 0..63"
unfoldable pub formed : Instruction → Bool
formed (ins o a b c) = fits (operands_of (form_of (operation_of o))) a b c

-- what stands at a place of a code: nothing, four words that are no instruction, or an instruction
pub data Fetched : Type 0 where
  outside unknown : Fetched
  found : Instruction → Fetched

unfoldable pub decode : ℕ → ℕ → ℕ → ℕ → Fetched
decode o a b c = cond (formed (ins o a b c)) (found (ins o a b c)) unknown

unfoldable pub encode : Instruction → List ℕ
encode (ins o a b c) = o ∷ a ∷ b ∷ c ∷ []

unfoldable pub assemble : List Instruction → List ℕ
assemble [] = []
assemble (i ∷ is) = encode i ++ assemble is

-- the number of instructions of a code, and what stands at place p
abbrev pub count_of : List ℕ → ℕ
count_of code = length code / 4

unfoldable pub fetch : List ℕ → ℕ → Fetched
fetch code p =
    cond (ltb p (count_of code))
    (decode (get_or code (p * 4) 0) (get_or code (p * 4 + 1) 0) (get_or code (p * 4 + 2) 0) (get_or code (p * 4 + 3) 0))
    outside

-- refusal 13 is for "code words not a multiple of 4, or above 262,144": other numbers of words are taken
abbrev pub code_limit : ℕ
code_limit = 262144

unfoldable pub taken : ℕ → Bool
taken words = eqb (words % 4) 0 && leb words code_limit
