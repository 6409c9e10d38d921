-- Digits written into the places for them, from the last to the first.
-- Assumes nothing.
use Rattle.std.proofs.Common.{◌≡◌, List, [], ◌∷◌, ◌++◌, ℕ, zero, suc, ◌/◌, ◌%◌, ◌-◌, ◌<◌, length, set, sym, ap, add-one, append-nil, drop_of_length-le, ◌∙◌, arith}
use borrow.Rule.Slice.PartMut.{put_mid}
use Rattle.decimal.specs.Decimal.{digit, digits}
use Rattle.decimal.proofs.Digits.{by_digits, digits_one, digits_more, length_one, length_more}

-- the last k digits of n
abbrev pub last_digits : ℕ → ℕ → List ℕ
last_digits zero n = []
last_digits (suc k) n = last_digits k (n / 10) ++ (digit (n % 10) ∷ [])

-- as many as a number has are all of them
pub last_all : (k n : ℕ) → k ≡ length (digits n) → last_digits k n ≡ digits n
last_all k n e =
    ap (λ (k : ℕ). last_digits k n) e
    ∙ by_digits (λ (n : ℕ). last_digits (length (digits n)) n ≡ digits n)
    (λ n h. ap (λ (k : ℕ). last_digits k n) (length_one n h) ∙ ap (λ (d : ℕ). digit d ∷ []) (omega arith) ∙ sym (digits_one n h))
    (λ n h p. ap (λ (k : ℕ). last_digits k n) (length_more n h ∙ add-one (length (digits (n / 10)))) ∙ ap (λ (bs : List ℕ). bs ++ (digit (n % 10) ∷ [])) p ∙ sym (digits_more n h))
    n

-- a byte at the front, and the digits in all the places after it
pub front_first : (l bs : List ℕ) (b : ℕ) → 0 < length l → put_mid 1 (length (set l 0 b) - 1) (set l 0 b) bs ≡ b ∷ bs
front_first [] bs b h = absurd (omega arith)
front_first (x ∷ l) bs b h = ap (λ (rest : List ℕ). b ∷ (bs ++ rest)) (drop_of_length-le l (omega arith)) ∙ ap (λ (r : List ℕ). b ∷ r) (append-nil bs)
