-- How a row's kind is read: by its first word, and the code's number of a kind is the one that the list of kinds has it at.
-- Assumes nothing.
use mathlib.Core.Path.{◌≡◌, refl, ap}
use mathlib.Core.List.{List}
use Prim.Native.Nat.{ℕ, ◌*◌}
use native.Mathlib.Omega.{arith}
use lib.ListN.{get_or}
use Rattle.rule.specs.declared.kind.Operator.TheVariants as O
use Rattle.rule.specs.declared.kind.Expression.TheVariants as E
use Rattle.rule.specs.declared.kind.Command.TheVariants as C
use Rattle.rule.specs.declared.kind.Kind.{Kind}
use Rattle.rule.specs.declared.kind.Kind.TheVariants as K
use Rattle.rule.specs.Kind.{kind_of, row_said, kind_number}
use Rattle.rule.specs.Table.{word}

pub kind_word : (ns : List ℕ) (i : ℕ) → get_or ns (i * 4) 0 ≡ word ns i 0
kind_word ns i = ap (λ (k : ℕ). get_or ns k 0) (omega arith)

pub kind_back : (k : Kind) → kind_of (kind_number k) ≡ row_said k
kind_back (K.Expression E.Value) = refl
kind_back (K.Expression E.Identifier) = refl
kind_back (K.Expression E.Element) = refl
kind_back (K.Expression (E.Binary O.Plus)) = refl
kind_back (K.Expression (E.Binary O.Minus)) = refl
kind_back (K.Expression (E.Binary O.Times)) = refl
kind_back (K.Expression (E.Binary O.Less)) = refl
kind_back (K.Expression (E.Binary O.Equal)) = refl
kind_back (K.Expression (E.Binary O.And)) = refl
kind_back (K.Expression (E.Binary O.Or)) = refl
kind_back (K.Expression E.Not) = refl
kind_back (K.Command C.Skip) = refl
kind_back (K.Command C.Assign) = refl
kind_back (K.Command C.AssignElement) = refl
kind_back (K.Command C.Sequence) = refl
kind_back (K.Command C.If) = refl
kind_back (K.Command C.While) = refl
