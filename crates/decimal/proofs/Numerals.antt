-- Numerals: a minus or none and the digits of the number without its sign, no leading zero, and read back as the number that was written.
-- Assumes nothing.
use Rattle.std.proofs.Common.{◌≡◌, Bool, true, false, cond, ◌&&◌, List, [], ◌∷◌, ◌++◌, ℕ, suc, ◌+◌, ◌-◌, ◌*◌, ◌/◌, ◌%◌, ◌^◌, ◌<◌, ◌≤◌, ltb, leb, ℤ, pos, negsuc, nat_abs, int_lt, ◌≤ℤ◌, ◌<ℤ◌, length, get_or, refl, sym, ap, ap₂, ◌∙◌, subst, lt-ltb, le-ltb, le-leb, ltb-true, leb-true, ne_eqb, arith}
use Rattle.std.proofs.lemmas.Int.{ints}
use Rattle.std.proofs.Math.Bool.{and-eq-true_iff}
use Rattle.std.specs.Int.{w32, cast_signed, from_bool}
use Prim.Native.Char.{code}
use Rattle.word.specs.Word.{signed}
use Rattle.word.proofs.Signed.{signed_low, signed_high, cast_signed_is_signed}
use Rattle.decimal.specs.Bytes.{bytes}
use Rattle.decimal.specs.Decimal.{digit, digits_in, digits, decimal, numeral, is_digit, all_digits, value_from, value, none, number, natural, negated, reading}
use Rattle.decimal.proofs.Digits.{digits_within, digits_one, digits_more, by_digits, digits_some, digits_short}

minus_one : numeral 4294967295 ≡ bytes "-1"
unfolding numeral signed digits_in
minus_one = refl

-- the digits of the number without its sign, and before them a minus if the number is negative
decimal_plain : (z : ℤ) → pos 0 ≤ℤ z → decimal z ≡ digits (nat_abs z)
decimal_plain (pos n) h = refl
decimal_plain (negsuc n) h = absurd (omega (arith, ints))

decimal_minus : (z : ℤ) → z <ℤ pos 0 → decimal z ≡ bytes "-" ++ digits (nat_abs z)
decimal_minus (pos n) h = absurd (omega (arith, ints))
decimal_minus (negsuc n) h = refl

module _ (w : ℕ) where
  pub numeral_plain : pos 0 ≤ℤ cast_signed w32 w → numeral w ≡ digits (nat_abs (signed w))
  unfolding numeral
  numeral_plain h = decimal_plain (signed w) (subst (λ (z : ℤ). pos 0 ≤ℤ z) (cast_signed_is_signed w) h)

  pub numeral_minus : cast_signed w32 w <ℤ pos 0 → numeral w ≡ bytes "-" ++ digits (nat_abs (signed w))
  unfolding numeral
  numeral_minus h = decimal_minus (signed w) (subst (λ (z : ℤ). z <ℤ pos 0) (cast_signed_is_signed w) h)

from_bool-le_one : (b : Bool) → from_bool b ≤ 1
from_bool-le_one true = omega arith
from_bool-le_one false = omega arith

-- so it has as many bytes as digits, or one more
decimal_bytes : (z : ℤ) → length (decimal z) ≡ length (digits (nat_abs z)) + from_bool (int_lt z (pos 0))
decimal_bytes (pos n) = rw (le-ltb n 0 (omega arith)) (omega arith)
decimal_bytes (negsuc n) = omega arith

pub numeral_bytes : (w : ℕ) → length (numeral w) ≡ length (digits (nat_abs (signed w))) + from_bool (int_lt (cast_signed w32 w) (pos 0))
unfolding numeral
numeral_bytes w = rw (cast_signed_is_signed w) (decimal_bytes (signed w))

-- and there are at most ten digits
magnitude_fits : (w : ℕ) → nat_abs (signed w) < 10 ^ 10
magnitude_fits w = go (ltb w 2147483648) refl
  where
    go : (t : Bool) → ltb w 2147483648 ≡ t → nat_abs (signed w) < 10 ^ 10
    go true e = let h = ltb-true w 2147483648 e in rw (signed_low w e) (omega arith)
    go false e = rw (signed_high w e) (omega arith)

pub numeral_short : (w : ℕ) → length (numeral w) ≤ 11
numeral_short w =
    omega (arith, numeral_bytes w, digits_short 9 (nat_abs (signed w)) (magnitude_fits w), from_bool-le_one (int_lt (cast_signed w32 w) (pos 0)))

-- a number that is not negative has few bytes if it is small
pub numeral_within : (k w : ℕ) → w < 2147483648 → w < 10 ^ suc k → length (numeral w) ≤ suc k
unfolding numeral
numeral_within k w h l =
    let e = ap (λ (z : ℤ). length (decimal z)) (signed_low w (lt-ltb w 2147483648 h)) in
    let d = digits_short k w l in
    omega arith

-- The ends of the range

ten_digits : (digits_in 9 2147483647 ≡ bytes "2147483647") × (digits_in 9 2147483648 ≡ bytes "2147483648")
unfolding digits_in
ten_digits = (refl, refl)

pub greatest : numeral 2147483647 ≡ bytes "2147483647"
unfolding numeral signed
greatest = digits_within 9 2147483647 (omega arith) ∙ ten_digits.0

pub least : numeral 2147483648 ≡ bytes "-2147483648"
unfolding numeral signed
least = ap (λ (bs : List ℕ). bytes "-" ++ bs) (digits_within 9 2147483648 (omega arith) ∙ ten_digits.1)

-- Read back

-- "with a minus if negative, leading zeros allowed"
some_read : (reading (bytes "0120") ≡ number (pos 120)) × (reading (bytes "-007") ≡ number (negsuc 6))
some_read = (refl, refl)

none_read : (reading (bytes "") ≡ none) × (reading (bytes "-") ≡ none) × (reading (bytes "--1") ≡ none) × (reading (bytes "1a") ≡ none)
none_read = (refl, refl, refl, refl)

value_append : (m : ℕ) (a : List ℕ) (b : ℕ) → value_from m (a ++ (b ∷ [])) ≡ value_from m a * 10 + (b - code "0")
value_append m [] b = refl
value_append m (x ∷ a) b = value_append (m * 10 + (x - code "0")) a b

pub value_digits : (n : ℕ) → value (digits n) ≡ n
value_digits =
    by_digits (λ (n : ℕ). value (digits n) ≡ n)
    (λ n h. ap value (digits_one n h) ∙ omega arith)
    (λ n h p. ap value (digits_more n h) ∙ value_append 0 (digits (n / 10)) (digit (n % 10)) ∙ ap (λ (m : ℕ). m * 10 + (digit (n % 10) - code "0")) p ∙ omega arith)

-- "leading zeros allowed"
pub value_zero : (bs : List ℕ) → value (code "0" ∷ bs) ≡ value bs
value_zero bs = refl

digit_is : (d : ℕ) → d < 10 → is_digit (digit d) ≡ true
digit_is d h = ap₂ ◌&&◌ (le-leb (code "0") (digit d) (omega arith)) (le-leb (digit d) (code "9") (omega arith))

all_append : (a : List ℕ) (b : ℕ) → all_digits a ≡ true → is_digit b ≡ true → all_digits (a ++ (b ∷ [])) ≡ true
all_append [] b p q = ap (λ (t : Bool). t && true) q
all_append (x ∷ a) b p q =
    let h = (and-eq-true_iff (is_digit x) (all_digits a)).0 p in
    ap₂ ◌&&◌ h.0 (all_append a b h.1 q)

pub digits_all : (n : ℕ) → all_digits (digits n) ≡ true
digits_all =
    by_digits (λ (n : ℕ). all_digits (digits n) ≡ true)
    (λ n h. ap all_digits (digits_one n h) ∙ ap (λ (t : Bool). t && true) (digit_is n h))
    (λ n h p. ap all_digits (digits_more n h) ∙ all_append (digits (n / 10)) (digit (n % 10)) p (digit_is (n % 10) (omega arith)))

first_append : (a b : List ℕ) (d : ℕ) → 1 ≤ length a → get_or (a ++ b) 0 d ≡ get_or a 0 d
first_append [] b d h = absurd (omega arith)
first_append (x ∷ a) b d h = refl

-- the first digit is no zero, except that of 0 itself
pub no_leading_zero : (n : ℕ) → 1 ≤ n → get_or (digits n) 0 (code "0") ≡ code "0" → ⊥
no_leading_zero = by_digits (λ (n : ℕ). 1 ≤ n → get_or (digits n) 0 (code "0") ≡ code "0" → ⊥) one more
  where
    one : (n : ℕ) → n < 10 → 1 ≤ n → get_or (digits n) 0 (code "0") ≡ code "0" → ⊥
    one n h k e = let l = ap (λ (bs : List ℕ). get_or bs 0 (code "0")) (digits_one n h) in omega arith

    more : (n : ℕ) → 10 ≤ n → (1 ≤ n / 10 → get_or (digits (n / 10)) 0 (code "0") ≡ code "0" → ⊥) → 1 ≤ n → get_or (digits n) 0 (code "0") ≡ code "0" → ⊥
    more n h p k e =
        p (omega arith)
        (sym (ap (λ (bs : List ℕ). get_or bs 0 (code "0")) (digits_more n h) ∙ first_append (digits (n / 10)) (digit (n % 10) ∷ []) (code "0") (digits_some (n / 10))) ∙ e)

-- digits are read as the number that they stand for
reading_digits : (bs : List ℕ) → 1 ≤ length bs → all_digits bs ≡ true → reading bs ≡ natural bs
reading_digits [] h e = absurd (omega arith)
reading_digits (b ∷ bs) h e =
    let k = (and-eq-true_iff (is_digit b) (all_digits bs)).0 e in
    let l = leb-true (code "0") b ((and-eq-true_iff (leb (code "0") b) (leb b (code "9"))).0 k.0).0 in
    ap (λ (t : Bool). cond t (negated (natural bs)) (natural (b ∷ bs))) (ne_eqb b (code "-") (λ q. omega arith))

natural_digits : (bs : List ℕ) → 1 ≤ length bs → all_digits bs ≡ true → natural bs ≡ number (pos (value bs))
natural_digits [] h e = absurd (omega arith)
natural_digits (b ∷ bs) h e = ap (λ (t : Bool). cond t (number (pos (value (b ∷ bs)))) none) e

natural_written : (n : ℕ) → natural (digits n) ≡ number (pos n)
natural_written n = natural_digits (digits n) (digits_some n) (digits_all n) ∙ ap (λ (m : ℕ). number (pos m)) (value_digits n)

reading_decimal : (z : ℤ) → reading (decimal z) ≡ number z
reading_decimal (pos n) =
    reading_digits (digits n) (digits_some n) (digits_all n) ∙ natural_written n
reading_decimal (negsuc n) = rw (natural_written (suc n))

-- what was written is read back
pub read_back : (w : ℕ) → reading (numeral w) ≡ number (signed w)
unfolding numeral
read_back w = reading_decimal (signed w)
