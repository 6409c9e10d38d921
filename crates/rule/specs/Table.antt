-- The tables handed in: declarations with their cells, and the tree that a node row stands for. 01-scope.md, "Tables handed in".
use Rattle.std.specs.Prelude.{cond, List, [], ◌∷◌, ◌++◌, ℕ, zero, suc, ◌+◌, ◌-◌, ◌*◌, ◌/◌, eqb, length, get_or}
use Rattle.rule.specs.Tree.{Exp, value, ident, element, binary, negate}
use Rattle.rule.specs.Tree.{Com, skip, assign, assign_at, sequence, choose, while}
use Rattle.rule.specs.Tree.{Binding, constant, variable, array}
use Rattle.rule.specs.Kind.{Kind, unknown, a_value, an_ident, an_element, a_binary, a_not, a_skip, an_assign, an_assign_at, a_sequence, an_if, a_while, kind_of}

-- "1,024 rows", "at most 256 rows", "cells pass 65,536"
abbrev pub row_limit : ℕ
row_limit = 1024

abbrev pub declaration_limit : ℕ
declaration_limit = 256

abbrev pub cell_limit : ℕ
cell_limit = 65536

-- "Declarations: two words a row": the kind and the value of row x
abbrev pub declaration_rows : List ℕ → ℕ
declaration_rows ds = length ds / 2

abbrev pub sort : List ℕ → ℕ → ℕ
sort ds x = get_or ds (x * 2) 0

abbrev pub given : List ℕ → ℕ → ℕ
given ds x = get_or ds (x * 2 + 1) 0

-- "(1, v) constant v; (2, 0) variable, one cell; (3, s) array of s cells"
abbrev pub cells_of : ℕ → ℕ → ℕ
cells_of k v = cond (eqb k 2) 1 (cond (eqb k 3) v 0)

-- "Cells are given out from address 0 in row order": the first cell of row x, which is the number of cells of the rows before it
unfoldable pub first_cell : List ℕ → ℕ → ℕ
first_cell ds zero = 0
first_cell ds (suc x) = first_cell ds x + cells_of (sort ds x) (given ds x)

unfoldable pub binding_of : List ℕ → ℕ → Binding
binding_of ds x =
    cond (eqb (sort ds x) 1) (constant (given ds x)) (cond (eqb (sort ds x) 2) (variable (first_cell ds x)) (array (first_cell ds x) (given ds x)))

-- "Nodes: four words a row": word k of row i, 0 for its kind
abbrev pub node_rows : List ℕ → ℕ
node_rows ns = length ns / 4

abbrev pub word : List ℕ → ℕ → ℕ → ℕ
word ns i k = get_or ns (i * 4 + k) 0

abbrev pub kind_at : List ℕ → ℕ → Kind
kind_at ns i = kind_of (word ns i 0)

-- A table built up row by row, each entry from those before it

module _ {A : Type 0} (d : A) (step : ℕ → (ℕ → A) → A) where
  unfoldable pub built : ℕ → List A
  built zero = []
  built (suc n) = built n ++ (step n (λ j. get_or (built n) j d) ∷ [])

  unfoldable pub entry : ℕ → A
  entry i = step i (λ j. get_or (built i) j d)

-- a row's tree, from the trees E and C of the rows below it. A row of the other sort is read as 0, or as skip: no accepted table has one there
abbrev pub exp_of : (ℕ → Exp) → Kind → ℕ → ℕ → Exp
exp_of E unknown a b = value 0
exp_of E a_value a b = value a
exp_of E an_ident a b = ident a
exp_of E an_element a b = element a (E b)
exp_of E (a_binary op) a b = binary op (E a) (E b)
exp_of E a_not a b = negate (E a)
exp_of E a_skip a b = value 0
exp_of E an_assign a b = value 0
exp_of E an_assign_at a b = value 0
exp_of E a_sequence a b = value 0
exp_of E an_if a b = value 0
exp_of E a_while a b = value 0

abbrev pub com_of : (ℕ → Exp) → (ℕ → Com) → Kind → ℕ → ℕ → ℕ → Com
com_of E C unknown a b c = skip
com_of E C a_value a b c = skip
com_of E C an_ident a b c = skip
com_of E C an_element a b c = skip
com_of E C (a_binary op) a b c = skip
com_of E C a_not a b c = skip
com_of E C a_skip a b c = skip
com_of E C an_assign a b c = assign a (E b)
com_of E C an_assign_at a b c = assign_at a (E b) (E c)
com_of E C a_sequence a b c = sequence (C a) (C b)
com_of E C an_if a b c = choose (E a) (C b) (C c)
com_of E C a_while a b c = while (E a) (C b)

abbrev pub exp_row : List ℕ → ℕ → (ℕ → Exp) → Exp
exp_row ns i E = exp_of E (kind_at ns i) (word ns i 1) (word ns i 2)

unfoldable pub exp_at : List ℕ → ℕ → Exp
exp_at ns i = entry (value 0) (exp_row ns) i

abbrev pub com_row : List ℕ → ℕ → (ℕ → Com) → Com
com_row ns i C = com_of (exp_at ns) C (kind_at ns i) (word ns i 1) (word ns i 2) (word ns i 3)

unfoldable pub com_at : List ℕ → ℕ → Com
com_at ns i = entry skip (com_row ns) i

-- "The last row is the whole program"
abbrev pub program : List ℕ → Com
program ns = com_at ns (node_rows ns - 1)
