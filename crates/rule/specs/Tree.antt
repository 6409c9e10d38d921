-- The tree of a rule, as source document 001 has it, and what a name stands for.
use Rattle.std.specs.Prelude.{ℕ}

pub data Op : Type 0 where
  plus minus times less equal both either : Op

-- "Kinds 1 to 11 are expressions"; names are rows of the declarations
pub data Exp : Type 0 where
  value : ℕ → Exp
  ident : ℕ → Exp
  element : ℕ → Exp → Exp
  binary : Op → Exp → Exp → Exp
  negate : Exp → Exp

-- "16 to 21 commands"
pub data Com : Type 0 where
  skip : Com
  assign : ℕ → Exp → Com
  assign_at : ℕ → Exp → Exp → Com
  sequence : Com → Com → Com
  choose : Exp → Com → Com → Com
  while : Exp → Com → Com

-- 001's pairs (type, value or address): a constant and its value, a variable and its cell, an array with its first cell and its size
pub data Binding : Type 0 where
  constant : ℕ → Binding
  variable : ℕ → Binding
  array : ℕ → ℕ → Binding

-- the first cell of a name; a constant has none, and no accepted rule asks for it
abbrev pub base : Binding → ℕ
base (constant v) = 0
base (variable a) = a
base (array a s) = a
