-- Words: numbers below 2^32 that stand for signed numbers. 01-scope.md, "Numbers".
use Rattle.std.specs.Prelude.{◌≡◌, ℕ, ◌-◌, ◌%◌, ◌<◌, Bool, cond, List, [], ◌∷◌, ℤ, pos, negsuc, ◌+ℤ◌, ◌-ℤ◌, ◌*ℤ◌, ◌≤ℤ◌, int_lt, nat_lt}

abbrev pub Word : ℕ → Type 0
Word a = a < 4294967296

-- "Every word of a table, of code and of memory is a value."
abbrev pub Words : List ℕ → Type 0
Words [] = Unit {0}
Words (w ∷ ws) = Word w × Words ws

-- "A value is a signed 32-bit number": a word is itself below 2^31, else itself less 2^32
unfoldable pub signed : ℕ → ℤ
signed a = cond (nat_lt a 2147483648) (pos a) (negsuc (4294967295 - a))

-- the word of an exact number, modulo 2^32
unfoldable pub word_of : ℤ → ℕ
word_of (pos n) = n % 4294967296
word_of (negsuc n) = 4294967295 - n % 4294967296

-- "wrap modulo 2^32 into -2147483648..2147483647": w is z in whole turns of 2^32, and in that range
pub record Wrapped (z w : ℤ) : Type 0 where
  pub low : negsuc 2147483647 ≤ℤ w
  pub high : w ≤ℤ pos 2147483647
  pub turns : (k : ℤ) × (z ≡ w +ℤ pos 4294967296 *ℤ k)

-- "Addition, subtraction and multiplication wrap": the exact result's word
unfoldable pub sum_of : ℕ → ℕ → ℕ
sum_of a b = word_of (signed a +ℤ signed b)

unfoldable pub difference_of : ℕ → ℕ → ℕ
difference_of a b = word_of (signed a -ℤ signed b)

unfoldable pub product_of : ℕ → ℕ → ℕ
product_of a b = word_of (signed a *ℤ signed b)

-- "Comparison is signed."
unfoldable pub less_of : ℕ → ℕ → Bool
less_of a b = int_lt (signed a) (signed b)

-- what an address leads to: a cell of the memory, or none
pub data Cell : Type 0 where
  At : ℕ → Cell
  Nowhere : Cell

-- the cell at an exact address, in a memory of size cells
unfoldable pub cell_of : ℤ → ℕ → Cell
cell_of (pos n) size = cond (nat_lt n size) (At n) Nowhere
cell_of (negsuc n) size = Nowhere

-- "An address is base plus index as an exact sum that does not wrap."
unfoldable pub address_of : ℕ → ℕ → ℤ
address_of base index = signed base +ℤ signed index
