-- Decimal numbers as bytes: written without leading zeros, read with any. 02-change-requests.md, Items 1, 3 and 6.
use Rattle.std.specs.Prelude.{Bool, true, cond, ◌&&◌, List, [], ◌∷◌, ◌++◌, ℕ, zero, suc, ◌+◌, ◌-◌, ◌*◌, ◌/◌, ◌%◌, eqb, ltb, leb, ℤ, pos, negsuc, neg_ℤ}
use Prim.Native.Char.{code}
use Rattle.word.specs.Word.{signed}
use Rattle.decimal.specs.Bytes.{bytes}

-- the byte of a digit 0 to 9
abbrev pub digit : ℕ → ℕ
digit d = code "0" + d

-- the digits of n, of which at most k stand before the last
unfoldable pub digits_in : ℕ → ℕ → List ℕ
digits_in zero n = digit (n % 10) ∷ []
digits_in (suc k) n = cond (ltb n 10) (digit n ∷ []) (digits_in k (n / 10) ++ (digit (n % 10) ∷ []))

-- the digits of n, without leading zeros: there are never more than n before the last
abbrev pub digits : ℕ → List ℕ
digits n = digits_in n n

-- "with a minus if negative"
abbrev pub decimal : ℤ → List ℕ
decimal (pos n) = digits n
decimal (negsuc n) = bytes "-" ++ digits (suc n)

-- the value of a word, in decimal
unfoldable pub numeral : ℕ → List ℕ
numeral w = decimal (signed w)

-- Reading

abbrev pub is_digit : ℕ → Bool
is_digit b = leb (code "0") b && leb b (code "9")

abbrev pub all_digits : List ℕ → Bool
all_digits [] = true
all_digits (b ∷ bs) = is_digit b && all_digits bs

-- the number that digits stand for, "leading zeros allowed", after those that stand for n
abbrev pub value_from : ℕ → List ℕ → ℕ
value_from n [] = n
value_from n (b ∷ bs) = value_from (n * 10 + (b - code "0")) bs

abbrev pub value : List ℕ → ℕ
value = value_from 0

-- what bytes say: no number, or an exact one
pub data Reading : Type 0 where
  none : Reading
  number : ℤ → Reading

-- one digit or more
abbrev pub natural : List ℕ → Reading
natural [] = none
natural (b ∷ bs) = cond (all_digits (b ∷ bs)) (number (pos (value (b ∷ bs)))) none

abbrev pub negated : Reading → Reading
negated none = none
negated (number z) = number (neg_ℤ z)

-- digits, or a minus directly before digits
abbrev pub reading : List ℕ → Reading
reading [] = none
reading (b ∷ bs) = cond (eqb b (code "-")) (negated (natural bs)) (natural (b ∷ bs))
