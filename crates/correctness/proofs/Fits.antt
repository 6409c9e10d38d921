-- What a tree and its names must be for the theorem: the values are words, and every cell's number is below 2^31.
-- Assumes nothing.
use Prim.Native.Nat.{◌<◌}
use native.Mathlib.Omega.{arith}
use Rattle.word.specs.Word.{Word}
use Rattle.rule.specs.Tree.{Exp, value, ident, element, binary, negate}
use Rattle.rule.specs.Tree.{Com, skip, assign, assign_at, sequence, choose, while}
use Rattle.rule.specs.Tree.{Binding, constant, variable, array, base}

abbrev pub Fit : Binding → Type 0
Fit (constant v) = Word v
Fit (variable a) = a < 2147483648
Fit (array a s) = a < 2147483648

pub base_fit : (x : Binding) → Fit x → base x < 2147483648
base_fit (constant v) f = omega arith
base_fit (variable a) f = f
base_fit (array a s) f = f

abbrev pub WordsExp : Exp → Type 0
WordsExp (value v) = Word v
WordsExp (ident x) = Unit {0}
WordsExp (element x e) = WordsExp e
WordsExp (binary op l r) = WordsExp l × WordsExp r
WordsExp (negate e) = WordsExp e

abbrev pub WordsCom : Com → Type 0
WordsCom skip = Unit {0}
WordsCom (assign x e) = WordsExp e
WordsCom (assign_at x i e) = WordsExp i × WordsExp e
WordsCom (sequence c d) = WordsCom c × WordsCom d
WordsCom (choose e c d) = WordsExp e × WordsCom c × WordsCom d
WordsCom (while e c) = WordsExp e × WordsCom c
