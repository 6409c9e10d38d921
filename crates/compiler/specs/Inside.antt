-- What the compiler's inner functions ask of each other. No promise of `compile` rests on this page.
use Rattle.std.specs.Prelude.{◌≡◌, true, List, [], ◌∷◌, ℕ, zero, suc, ◌+◌, ◌*◌, ◌<◌, ◌≤◌, length, get_or}
use Rattle.std.proofs.Props.{props}
use Rattle.std.proofs.lemmas.List.Edits.{sets}
use Rattle.instruction.specs.Instruction.{Instruction, ins, addi, assemble}
use Rattle.rule.specs.Tree.{Exp, Com, Binding}
use Rattle.rule.specs.Kind.{Class, Words, first, second, third, none, unused, number, scalar, variable_name, array_name, expression, command, words_of, is_expression, is_command}
use Rattle.rule.specs.Table.{row_limit, declaration_limit, declaration_rows, first_cell, kind_at}
use Rattle.rule.proofs.Clean.{InOrder, RowInOrder}
use Rattle.compiler.specs.declared.code.Code.{Code}
use Rattle.compiler.specs.Compile.{need_exp, size_exp, need_com, size_com}

-- r is x, and then y unless t or u, branching on $0, sends control to the end
abbrev pub either_way : ℕ → ℕ → ℕ → ℕ → ℕ → ℕ → ℕ → List Instruction
either_way branch r t u x y end = ins addi r x 0 ∷ ins branch t 0 end ∷ ins branch u 0 end ∷ ins addi r y 0 ∷ []

-- the tables are of sizes that are taken, and every row is in order
pub record Rows (ds ns : List ℕ) : Type 0 where
  pub few : declaration_rows ds ≤ declaration_limit
  pub short : length ns ≤ row_limit * 4
  pub ok : (i : ℕ) → i * 4 + 3 < length ns → RowInOrder ds ns i (words_of (kind_at ns i))

-- a word is in order in one way at most, and so are the rows: the tables carry it
InOrder-prop : (ds ns : List ℕ) (i : ℕ) (c : Class) (w : ℕ) → IsProp (InOrder ds ns i c w)
InOrder-prop ds ns i none w = hlevel props
InOrder-prop ds ns i unused w = hlevel props
InOrder-prop ds ns i number w = hlevel props
InOrder-prop ds ns i scalar w = hlevel props
InOrder-prop ds ns i variable_name w = hlevel props
InOrder-prop ds ns i array_name w = hlevel props
InOrder-prop ds ns i expression w = hlevel props
InOrder-prop ds ns i command w = hlevel props

pub Rows-prop : (ds ns : List ℕ) → IsProp (Rows ds ns)
Rows-prop ds ns = hlevel (props, InOrder-prop)

-- the array of bases holds each declaration's first cell
pub record Based (ds bases : List ℕ) : Type 0 where
  pub based : (x : ℕ) → x < declaration_rows ds → get_or bases x 0 ≡ first_cell ds x

pub Based-prop : (ds bases : List ℕ) → IsProp (Based ds bases)
Based-prop ds bases = hlevel props

-- row i is there, and of its sort
-- Which row a call is about differs from call to call, so that this is asked of each and is no field of the tables.
pub record ExpRow (ns : List ℕ) (i : ℕ) : Type 0 where
  pub there : i * 4 + 3 < length ns
  pub sort : is_expression (kind_at ns i) ≡ true

pub record ComRow (ns : List ℕ) (i : ℕ) : Type 0 where
  pub there : i * 4 + 3 < length ns
  pub sort : is_command (kind_at ns i) ≡ true

-- what word k of a row is, from what its three words are
abbrev pub class_of : Words → ℕ → Class
class_of w zero = none
class_of w (suc zero) = first w
class_of w (suc (suc zero)) = second w
class_of w (suc (suc (suc zero))) = third w
class_of w (suc (suc (suc (suc k)))) = none

-- what word k of row i is, by the row's kind
abbrev pub class_at : List ℕ → ℕ → ℕ → Class
class_at ns i = class_of (words_of (kind_at ns i))

-- room in the buffer l for n instructions from p on, whose numbers are words
pub record Room (l : List ℕ) (p n : ℕ) : Type 0 where
  pub fits : (p + n) * 4 ≤ length l
  pub small : p + n < 4294967296

-- the buffer l with the instructions c laid from p on
unfoldable pub put : List ℕ → ℕ → List Instruction → List ℕ
put l p c = sets l (p * 4) (assemble c)

-- l' is l with the instructions c from p on, and q is the place after the last of them
pub record Emitted (l l' : List ℕ) (p q : ℕ) (c : List Instruction) : Type 0 where
  pub next : q ≡ p + length c
  pub code : l' ≡ put l p c
  pub kept : length l' ≡ length l

-- room for n more instructions
abbrev pub HasRoom : Code → ℕ → Type 0
HasRoom k n = Room k.words.now k.at n

-- k' is the code k, in the same buffer, with the instructions c laid where it goes on
pub record Lays (k k' : Code) (c : List Instruction) : Type 0 where
  pub same : k'.words.ghost_name ≡ k.words.ghost_name
  pub next : k'.at ≡ k.at + length c
  pub code : k'.words.now ≡ put k.words.now k.at c
  pub kept : length k'.words.now ≡ length k.words.now

-- registers and room enough
-- Room and registers are asked of each call, since room shrinks with every instruction and the registers with every operand.
pub record Fit (ρ : ℕ → Binding) (e : Exp) (k : Code) (F : List ℕ) : Type 0 where
  pub need : need_exp ρ e ≤ length F
  pub room : HasRoom k (size_exp ρ e)

pub record FitCom (ρ : ℕ → Binding) (c : Com) (k : Code) (F : List ℕ) : Type 0 where
  pub need : need_com ρ c ≤ length F
  pub room : HasRoom k (size_com ρ c)
