-- Refusals: one check after another, the lowest row that is refused, and what is left in a lent buffer. 01-scope.md, "Numbered refusals, in order".
use Rattle.std.specs.Prelude.{Bool, cond, List, ◌++◌, ℕ, zero, suc, ltb, length, drop, Result, Ok, Err}
use Rattle.refusal.specs.declared.Refusal.{Refusal}
use Rattle.refusal.specs.declared.Refusal.TheVariants as R

-- whether a check passes, or the refusal's number and the number returned with it
pub data Verdict : Type 0 where
  Passes : Verdict
  Refuses : ℕ → ℕ → Verdict

-- the number of each refusal in the table
abbrev pub number_of : Refusal → ℕ
number_of R.NodeWords = 1
number_of R.DeclarationWords = 2
number_of R.Pool = 3
number_of (R.Declaration row) = 4
number_of (R.Cells row) = 5
number_of (R.Word row) = 6
number_of (R.Sort row) = 7
number_of (R.Name row) = 8
number_of (R.NamedKind row) = 9
number_of (R.Uses row) = 10
number_of (R.Registers need) = 11
number_of (R.Room instructions) = 12
number_of R.CodeWords = 13
number_of R.MemoryCells = 14
number_of (R.Instruction place) = 21
number_of (R.TextRoom needed) = 22

-- the "number returned" with each
abbrev pub value_of : Refusal → ℕ
value_of R.NodeWords = 0
value_of R.DeclarationWords = 0
value_of R.Pool = 0
value_of (R.Declaration row) = row
value_of (R.Cells row) = row
value_of (R.Word row) = row
value_of (R.Sort row) = row
value_of (R.Name row) = row
value_of (R.NamedKind row) = row
value_of (R.Uses row) = row
value_of (R.Registers need) = need
value_of (R.Room instructions) = instructions
value_of R.CodeWords = 0
value_of R.MemoryCells = 0
value_of (R.Instruction place) = place
value_of (R.TextRoom needed) = needed

-- the verdict of an answer, whatever it holds where it is accepted
abbrev pub verdict_of : {A : Type 0} → Result A Refusal → Verdict
verdict_of (Ok x) = Passes
verdict_of (Err r) = Refuses (number_of r) (value_of r)

-- one check after another: the first refusal stands
infixr 5 ◌and_then◌
abbrev pub ◌and_then◌ : Verdict → Verdict → Verdict
Passes and_then v = v
Refuses n k and_then v = Refuses n k

-- the lowest of m rows from i on of which p holds, or the row after them
unfoldable pub lowest_from : (ℕ → Bool) → ℕ → ℕ → ℕ
lowest_from p zero i = i
lowest_from p (suc m) i = cond (p i) i (lowest_from p m (suc i))

-- "the first failing row decides": of n rows the lowest of which p holds is refused, with the number that f gives it
abbrev pub refused_at : (ℕ → ℕ) → ℕ → ℕ → Verdict
refused_at f n i = cond (ltb i n) (Refuses (f i) i) Passes

abbrev pub first_refused : (ℕ → ℕ) → (ℕ → Bool) → ℕ → Verdict
first_refused f p n = refused_at f n (lowest_from p n 0)

-- a buffer with words or bytes laid over its front: those "beyond the count keep their contents"
abbrev pub laid_over : List ℕ → List ℕ → List ℕ
laid_over ws buffer = ws ++ drop (length ws) buffer
