-- What a rule means, and the steps that it takes. 01-scope.md, "Meaning of a rule, and its steps".
-- A computation goes from a memory and a budget to an outcome; in each construct its parts come first, then the steps beyond theirs.
use Rattle.std.specs.Prelude.{Bool, cond, not, ◌&&◌, ◌||◌, List, ℕ, zero, suc, eqb, ℤ, pos, ◌+ℤ◌, length, get_or, set}
use Rattle.word.specs.Word.{signed, sum_of, difference_of, product_of, less_of, cell_of, Cell, At, Nowhere}
use Rattle.rule.specs.Tree.{Op, plus, minus, times, less, equal, both, either}
use Rattle.rule.specs.Tree.{Exp, value, ident, element, binary, negate}
use Rattle.rule.specs.Tree.{Com, skip, assign, assign_at, sequence, choose, while}
use Rattle.rule.specs.Tree.{Binding, constant, variable, array, base}

-- done with an answer, faulted with a number, or unfinished (with nothing left); with the memory, and the budget left
pub data Outcome (A : Type 0) : Type 0 where
  done : A → List ℕ → ℕ → Outcome A
  fault : ℕ → List ℕ → ℕ → Outcome A
  out : List ℕ → Outcome A

-- the budget that an outcome leaves
abbrev pub left_of : {A : Type 0} → Outcome A → ℕ
left_of (done a m b) = b
left_of (fault n m b) = b
left_of (out m) = 0

abbrev pub M : Type 0 → Type 0
M A = List ℕ → ℕ → Outcome A

-- "With none left the rule is unfinished, and nothing later has happened."
abbrev pub bind : {A B : Type 0} → Outcome A → (A → M B) → Outcome B
bind (done a m b) k = k a m b
bind (fault n m b) k = fault n m b
bind (out m) k = out m

infixl 20 ◌>>=◌
infixl 20 ◌>>◌
abbrev pub ◌>>=◌ : {A B : Type 0} → M A → (A → M B) → M B
◌>>=◌ c k m b = bind (c m b) k

abbrev pub ◌>>◌ : {A B : Type 0} → M A → M B → M B
◌>>◌ c d m b = bind (c m b) (λ _. d)

abbrev pub return : {A : Type 0} → A → M A
return a m b = done a m b

-- "A step is taken only if budget is left": k steps, as far as the budget goes
abbrev pub spend : ℕ → M (Unit {0})
spend zero m b = done tt m b
spend (suc k) m zero = out m
spend (suc k) m (suc b) = spend k m b

-- "A rule faults when that address, or a variable's, is outside memory"; "A step that faults is not counted, but is only tried while budget is left":
-- the step that reads the cell at an address
abbrev pub read_cell : List ℕ → ℕ → Cell → Outcome ℕ
read_cell m b (At i) = done (get_or m i 0) m b
read_cell m b Nowhere = fault 4 m (suc b)

abbrev pub read : ℤ → M ℕ
read z m zero = out m
read z m (suc b) = read_cell m b (cell_of z (length m))

-- and the step that stores v there
abbrev pub store_cell : ℕ → List ℕ → ℕ → Cell → Outcome (Unit {0})
store_cell v m b (At i) = done tt (set m i v) b
store_cell v m b Nowhere = fault 4 m (suc b)

abbrev pub store : ℤ → ℕ → M (Unit {0})
store z v m zero = out m
store z v m (suc b) = store_cell v m b (cell_of z (length m))

-- "An element is the cell at its array's first address plus the index."
abbrev pub element_of : Binding → ℕ → ℤ
element_of x i = pos (base x) +ℤ signed i

-- "Truth is any value but 0; =, <, and, or, not give 0 or 1."
abbrev pub truth : ℕ → Bool
truth v = not (eqb v 0)

abbrev pub flag : Bool → ℕ
flag t = cond t 1 0

abbrev pub result : Op → ℕ → ℕ → ℕ
result plus v w = sum_of v w
result minus v w = difference_of v w
result times v w = product_of v w
result less v w = flag (less_of v w)
result equal v w = flag (eqb v w)
result both v w = flag (truth v && truth w)
result either v w = flag (truth v || truth w)

-- the table's rows "+ - * <", "=", "and", "or"
abbrev pub steps : Op → ℕ → ℕ → ℕ
steps plus v w = 1
steps minus v w = 1
steps times v w = 1
steps less v w = 1
steps equal v w = cond (eqb v w) 2 3
steps both v w = cond (truth v) (cond (truth w) 4 3) 2
steps either v w = cond (truth v) 2 (cond (truth w) 3 4)

-- "value, constant: 1"; "variable: 2, the second reads"
abbrev pub named : Binding → M ℕ
named (constant v) = spend 1 >> return v
named (variable a) = spend 1 >> read (pos a)
named (array a s) = spend 1 >> read (pos a)

-- "Operands are evaluated left to right; and, or evaluate both." "element: 2, the second reads"; "not: 2 if operand is 0, else 3"
unfoldable pub eval : (ℕ → Binding) → Exp → M ℕ
eval ρ (value v) = spend 1 >> return v
eval ρ (ident x) = named (ρ x)
eval ρ (element x e) = do
  i ← eval ρ e
  spend 1
  read (element_of (ρ x) i)
eval ρ (binary op l r) = do
  v ← eval ρ l
  w ← eval ρ r
  spend (steps op v w)
  return (result op v w)
eval ρ (negate e) = do
  v ← eval ρ e
  spend (cond (truth v) 3 2)
  return (flag (not (truth v)))

-- "while: 1 after each test; 1 more after each body". Each turn takes a step at least, so that as many turns as there is budget are enough
unfoldable pub turns : M ℕ → M (Unit {0}) → ℕ → M (Unit {0})
turns test body zero = λ m b. out m
turns test body (suc f) = do
  v ← test
  spend 1
  cond (truth v) (body >> spend 1 >> turns test body f) (return tt)

-- "skip: 1"; "either assign: 2, the second stores"; "if: 1 after the test; 1 more after the then part"
unfoldable pub exec : (ℕ → Binding) → Com → M (Unit {0})
exec ρ skip = spend 1
exec ρ (assign x e) = do
  v ← eval ρ e
  spend 1
  store (pos (base (ρ x))) v
exec ρ (assign_at x i e) = do
  j ← eval ρ i
  v ← eval ρ e
  spend 1
  store (element_of (ρ x) j) v
exec ρ (sequence c d) = exec ρ c >> exec ρ d
exec ρ (choose e c d) = do
  v ← eval ρ e
  spend 1
  cond (truth v) (exec ρ c >> spend 1) (exec ρ d)
exec ρ (while e c) = λ m b. turns (eval ρ e) (exec ρ c) b m b

-- "end of rule: 1"
unfoldable pub rule_meaning : (ℕ → Binding) → Com → M (Unit {0})
rule_meaning ρ c = exec ρ c >> spend 1
