-- The digits of a number: its last one after those of its tenth, and how many there are.
-- Assumes nothing.
use Rattle.std.proofs.Common.{◌≡◌, Bool, true, false, List, [], ◌∷◌, ◌++◌, ℕ, zero, suc, ◌+◌, ◌*◌, ◌/◌, ◌%◌, ◌^◌, ◌<◌, ◌≤◌, ltb, length, refl, sym, ap, ◌∙◌, subst, add-one, length-append, lt-ltb, le-ltb, ltb-true, ltb-false, arith}
use Rattle.std.proofs.Math.Nat.{one-le-pow}
use Rattle.decimal.specs.Bytes.{bytes}
use Rattle.decimal.specs.Decimal.{digit, digits_in, digits}

few_digits : (digits 0 ≡ bytes "0") × (digits 9 ≡ bytes "9") × (digits 10 ≡ bytes "10")
unfolding digits_in
few_digits = (refl, refl, refl)

-- How many digits may stand before the last does not matter, once there are enough of them

digits_in_one : (k n : ℕ) → n < 10 → digits_in k n ≡ digit n ∷ []
unfolding digits_in
digits_in_one zero n h = ap (λ (d : ℕ). digit d ∷ []) (omega arith)
digits_in_one (suc k) n h = rw (lt-ltb n 10 h)

digits_in_more : (k n : ℕ) → 10 ≤ n → digits_in (suc k) n ≡ digits_in k (n / 10) ++ (digit (n % 10) ∷ [])
unfolding digits_in
digits_in_more k n h = rw (le-ltb n 10 h)

enough : (j k n : ℕ) → n < 10 ^ suc j → n < 10 ^ suc k → digits_in j n ≡ digits_in k n
enough zero k n p q = digits_in_one zero n (omega arith) ∙ sym (digits_in_one k n (omega arith))
enough (suc j) zero n p q = digits_in_one (suc j) n (omega arith) ∙ sym (digits_in_one zero n (omega arith))
enough (suc j) (suc k) n p q = go (enough j k (n / 10) (omega arith) (omega arith)) (ltb n 10) refl
  where
    go : digits_in j (n / 10) ≡ digits_in k (n / 10) → (t : Bool) → ltb n 10 ≡ t → digits_in (suc j) n ≡ digits_in (suc k) n
    go tenth true e = digits_in_one (suc j) n (ltb-true n 10 e) ∙ sym (digits_in_one (suc k) n (ltb-true n 10 e))
    go tenth false e =
        let h = ltb-false n 10 e in
        digits_in_more j n h ∙ ap (λ (bs : List ℕ). bs ++ (digit (n % 10) ∷ [])) tenth ∙ sym (digits_in_more k n h)

power : (n : ℕ) → n < 10 ^ suc n
power zero = omega arith
power (suc n) = let h = power n in omega arith

pub digits_within : (k n : ℕ) → n < 10 ^ suc k → digits n ≡ digits_in k n
digits_within k n h = enough n k n (power n) h

-- So the digits of a number are its last one after those of its tenth

pub digits_one : (n : ℕ) → n < 10 → digits n ≡ digit n ∷ []
digits_one n h = digits_in_one n n h

pub digits_more : (n : ℕ) → 10 ≤ n → digits n ≡ digits (n / 10) ++ (digit (n % 10) ∷ [])
digits_more n h =
    digits_within (suc n) n (let p = power n in omega arith)
    ∙ digits_in_more n n h
    ∙ ap (λ (bs : List ℕ). bs ++ (digit (n % 10) ∷ [])) (sym (digits_within n (n / 10) (let p = power n in omega arith)))

-- what holds of one digit, and of a number if it holds of its tenth, holds of every number
module _ (P : ℕ → Type 0) (one : (n : ℕ) → n < 10 → P n) (more : (n : ℕ) → 10 ≤ n → P (n / 10) → P n) where
  up_to : (k n : ℕ) → n ≤ k → P n
  up_to zero n h = one n (omega arith)
  up_to (suc k) n h = go (λ l. up_to k (n / 10) (omega arith)) (ltb n 10) refl
    where
      go : (10 ≤ n → P (n / 10)) → (t : Bool) → ltb n 10 ≡ t → P n
      go tenth true e = one n (ltb-true n 10 e)
      go tenth false e = let l = ltb-false n 10 e in more n l (tenth l)

  pub by_digits : (n : ℕ) → P n
  by_digits n = up_to n n (omega arith)

-- How many there are

pub length_one : (n : ℕ) → n < 10 → length (digits n) ≡ 1
length_one n h = ap length (digits_one n h)

pub length_more : (n : ℕ) → 10 ≤ n → length (digits n) ≡ length (digits (n / 10)) + 1
length_more n h = ap length (digits_more n h) ∙ length-append (digits (n / 10)) (digit (n % 10) ∷ [])

pub digits_some : (n : ℕ) → 1 ≤ length (digits n)
digits_some =
    by_digits (λ (n : ℕ). 1 ≤ length (digits n))
    (λ n h. let e = length_one n h in omega arith)
    (λ n h p. let e = length_more n h in omega arith)

-- n below 10 ^ (k + 1) has at most k + 1
pub digits_short : (k n : ℕ) → n < 10 ^ suc k → length (digits n) ≤ suc k
digits_short zero n h = let e = length_one n (omega arith) in omega arith
digits_short (suc k) n h = go (λ l. digits_short k (n / 10) (omega arith)) (ltb n 10) refl
  where
    go : (10 ≤ n → length (digits (n / 10)) ≤ suc k) → (t : Bool) → ltb n 10 ≡ t → length (digits n) ≤ suc (suc k)
    go tenth true e = let l = length_one n (ltb-true n 10 e) in omega arith
    go tenth false e = let h = ltb-false n 10 e in let l = length_more n h in let p = tenth h in omega arith

-- n from 10 ^ k on has more than k
digits_long : (k n : ℕ) → 10 ^ k ≤ n → suc k ≤ length (digits n)
digits_long zero n h = digits_some n
digits_long (suc k) n h =
    let p = digits_long k (n / 10) (omega arith) in
    let ten = one-le-pow k 10 (omega arith) in
    let l = length_more n (omega arith) in
    omega arith

-- so they are one more than the logarithm says
pub digits_counted : (k n : ℕ) → 10 ^ k ≤ n → n < 10 * 10 ^ k → k + 1 ≡ length (digits n)
digits_counted k n h l = omega (arith, digits_short k n (omega arith), digits_long k n h)

-- as many digits as there are say how large the number can be
pub digits_bound : (k n : ℕ) → k ≡ length (digits n) → n < 10 ^ k
digits_bound k n e = subst (λ (k : ℕ). n < 10 ^ k) (sym e) (bound n)
  where
    bound : (n : ℕ) → n < 10 ^ length (digits n)
    bound =
        by_digits (λ (n : ℕ). n < 10 ^ length (digits n))
        (λ n h. let e = ap (λ (k : ℕ). 10 ^ k) (length_one n h) in omega arith)
        (λ n h p. let e = ap (λ (k : ℕ). 10 ^ k) (length_more n h ∙ add-one (length (digits (n / 10)))) in omega arith)
