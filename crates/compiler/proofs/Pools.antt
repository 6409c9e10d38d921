-- The pool's number and its list of registers: trailing zeros give the fresh register, clearing that bit what is left, and ones the count.
-- Assumes nothing.
use mathlib.Core.Path.{◌≡◌, refl, sym, ap, ◌∙◌}
use mathlib.Core.List.{List, [], ◌∷◌}
use Prim.Native.Nat.{ℕ, zero, suc, ◌+◌, ◌-◌, ◌*◌, ◌/◌, ◌%◌, ◌^◌, ◌<◌, min}
use native.Mathlib.Nat.{pow-suc, add-zero, add-suc, suc-add, zero-add}
use native.Mathlib.Omega.{arith}
use lib.ListN.{length}
use lib.Arith.{lt-one}
use lib.Count.{count_trailing_zeros, under, ones, ones_step}
use lib.Bits.{bit_and, and_step, and_self}
use Rattle.compiler.specs.Pool.{cons_if, registers_from, registers_of, fresh, without}

half_lt : (d n : ℕ) → n < 2 ^ suc d → n / 2 < 2 ^ d
half_lt d n h = let e = pow-suc 2 d in omega arith

lowest_first : (d k n : ℕ) → 0 < n → n < 2 ^ d → registers_from d k n ≡ (k + count_trailing_zeros d n) ∷ registers_from d k (n - 2 ^ count_trailing_zeros d n)
unfolding registers_from count_trailing_zeros
lowest_first zero k n p h = let z : n ≡ 0 = lt-one h in absurd (omega arith)
lowest_first (suc d) k n p h = go (n % 2) refl (λ q. lowest_first d (suc k) (n / 2) q (half_lt d n h))
  where
    go : (r : ℕ) → n % 2 ≡ r → (0 < n / 2 → registers_from d (suc k) (n / 2) ≡ (suc k + count_trailing_zeros d (n / 2)) ∷ registers_from d (suc k) (n / 2 - 2 ^ count_trailing_zeros d (n / 2)))
        → cons_if r k (registers_from d (suc k) (n / 2)) ≡ (k + under r (count_trailing_zeros d (n / 2))) ∷ cons_if ((n - 2 ^ under r (count_trailing_zeros d (n / 2))) % 2) k (registers_from d (suc k) ((n - 2 ^ under r (count_trailing_zeros d (n / 2))) / 2))
    go zero e ih =
        let t = count_trailing_zeros d (n / 2) in
        let w = pow-suc 2 t in
        let even : (n - 2 ^ suc t) % 2 ≡ 0 = omega arith in
        let halved : (n - 2 ^ suc t) / 2 ≡ n / 2 - 2 ^ t = omega arith in
        rw (even, halved, add-suc) (ih (omega arith) ∙ ap (λ (m : ℕ). m ∷ registers_from d (suc k) (n / 2 - 2 ^ t)) (suc-add k t))
    go (suc zero) e ih =
        let even : (n - 2 ^ 0) % 2 ≡ 0 = omega arith in
        let halved : (n - 2 ^ 0) / 2 ≡ n / 2 = omega arith in
        rw (even, halved, add-zero)
    go (suc (suc r)) e ih = absurd (omega arith)

counted : (d k n : ℕ) → n < 2 ^ d → length (registers_from d k n) ≡ ones n
unfolding registers_from ones
counted zero k n h = ap ones (sym (lt-one h))
counted (suc d) k n h = go (n % 2) refl (counted d (suc k) (n / 2) (half_lt d n h)) ∙ sym (ones_step n)
  where
    go : (r : ℕ) → n % 2 ≡ r → length (registers_from d (suc k) (n / 2)) ≡ ones (n / 2) → length (cons_if r k (registers_from d (suc k) (n / 2))) ≡ n % 2 + ones (n / 2)
    go zero e ih = omega arith
    go (suc zero) e ih = omega arith
    go (suc (suc r)) e ih = absurd (omega arith)

-- Clearing the lowest set bit

even_step : (n x t m : ℕ) → n % 2 ≡ 0 → x ≡ n / 2 - t → x * 2 + min (n % 2) m ≡ n - t * 2
even_step n x t m e i = omega arith

odd_step : (n x m : ℕ) → n % 2 ≡ 1 → x ≡ n / 2 → m ≡ 0 → x * 2 + min (n % 2) m ≡ n - 1
odd_step n x m e i z = omega arith

-- n & (n - 1), at d digits
and_below : (d n : ℕ) → 0 < n → n < 2 ^ d → bit_and n (n - 1) ≡ n - 2 ^ count_trailing_zeros d n
unfolding count_trailing_zeros
and_below zero n p h = let z : n ≡ 0 = lt-one h in absurd (omega arith)
and_below (suc d) n p h = go (n % 2) refl (λ q. and_below d (n / 2) q (half_lt d n h))
  where
    go : (r : ℕ) → n % 2 ≡ r → (0 < n / 2 → bit_and (n / 2) (n / 2 - 1) ≡ n / 2 - 2 ^ count_trailing_zeros d (n / 2))
        → bit_and n (n - 1) ≡ n - 2 ^ under r (count_trailing_zeros d (n / 2))
    go zero e ih =
        let t = count_trailing_zeros d (n / 2) in
        let half : (n - 1) / 2 ≡ n / 2 - 1 = omega arith in
        let i = ap (bit_and (n / 2)) half ∙ ih (omega arith) in
        and_step n (n - 1) ∙ even_step n (bit_and (n / 2) ((n - 1) / 2)) (2 ^ t) ((n - 1) % 2) e i ∙ ap (λ (k : ℕ). n - k) (sym (pow-suc 2 t))
    go (suc zero) e ih =
        let half : (n - 1) / 2 ≡ n / 2 = omega arith in
        let i = ap (bit_and (n / 2)) half ∙ and_self (n / 2) in
        and_step n (n - 1) ∙ odd_step n (bit_and (n / 2) ((n - 1) / 2)) ((n - 1) % 2) e i (omega arith)
    go (suc (suc r)) e ih = absurd (omega arith)

module _ (n : ℕ) (fits : n < 2 ^ 64) where
  -- a pool's count
  pub count_registers : length (registers_of n) ≡ ones n
  unfolding registers_of
  count_registers = counted 64 0 n fits

  module _ (some : 0 < length (registers_of n)) where
    pub pool_pos : 0 < n
    unfolding registers_of registers_from
    pool_pos = go n refl
      where
        go : (m : ℕ) → n ≡ m → 0 < n
        go zero e = let z : length (registers_of n) ≡ 0 = ap (λ (k : ℕ). length (registers_of k)) e in absurd (omega arith)
        go (suc m) e = omega arith

    pub registers_cons : registers_of n ≡ count_trailing_zeros 64 n ∷ registers_of (n - 2 ^ count_trailing_zeros 64 n)
    unfolding registers_of
    registers_cons = lowest_first 64 0 n pool_pos fits ∙ ap (λ (m : ℕ). m ∷ registers_of (n - 2 ^ count_trailing_zeros 64 n)) (zero-add (count_trailing_zeros 64 n))

    pub fresh_is_lowest : count_trailing_zeros 64 n ≡ fresh (registers_of n)
    fresh_is_lowest = sym (ap fresh registers_cons)

    pub without_lowest : registers_of (bit_and n (n - 1)) ≡ without (registers_of n)
    without_lowest = ap registers_of (and_below 64 n pool_pos fits) ∙ sym (ap without registers_cons)

pub length_without : (F : List ℕ) → length (without F) ≡ length F - 1
length_without [] = refl
length_without (x ∷ F) = omega arith
