-- The pool: a number whose bit k says that $k may be used, as the ascending list of its registers. 01-scope.md, "Tables handed in".
use Rattle.std.specs.Prelude.{List, [], ◌∷◌, ℕ, zero, suc, ◌/◌, ◌%◌}

-- "bit k set means that $k may be used"
abbrev pub cons_if : ℕ → ℕ → List ℕ → List ℕ
cons_if zero k l = l
cons_if (suc b) k l = k ∷ l

-- the registers of the d lowest bits of n, the first of which is $k
unfoldable pub registers_from : ℕ → ℕ → ℕ → List ℕ
registers_from zero k n = []
registers_from (suc d) k n = cons_if (n % 2) k (registers_from d (suc k) (n / 2))

unfoldable pub registers_of : ℕ → List ℕ
registers_of pool = registers_from 64 0 pool

-- "A fresh register is always the lowest-numbered one left in the pool at hand": it, and what is left
abbrev pub fresh : List ℕ → ℕ
fresh [] = 0
fresh (t ∷ F) = t

abbrev pub without : List ℕ → List ℕ
without [] = []
without (t ∷ F) = F
