-- The registers of a pool: $k is one exactly when bit k is set; and where bit 0 is clear, each is $1 to $63, and each is there once.
-- Assumes nothing.
use mathlib.Core.Path.{◌≡◌, refl, sym, ap, subst}
use mathlib.Core.Logic.Iff
use mathlib.Core.Logic.{◌↔◌}
use mathlib.Core.List.{List}
use Prim.Native.Nat.{ℕ, zero, suc, ◌+◌, ◌/◌, ◌%◌, ◌^◌, ◌<◌, ◌≤◌}
use native.Mathlib.Nat.{add-zero, zero-add, div-one, pow-succ', div-div-eq-div-mul}
use native.Mathlib.Omega.{arith}
use Rattle.compiler.specs.Pool.{cons_if, registers_from, registers_of}
use Rattle.correctness.specs.Demand3.{Free}
use Rattle.correctness.proofs.Frame.{Pool}

-- one register more is no other
other : (b k j : ℕ) (l : List ℕ) → (j ≡ k → ⊥) → Free j (cons_if b k l) ↔ Free j l
other zero k j l h = Iff.rfl
other (suc b) k j l h = (λ f. f.1, λ f. (h, f))

-- registers from $k on are none below it
free_below : (d k n j : ℕ) → j < k → Free j (registers_from d k n)
unfolding registers_from
free_below zero k n j h = tt
free_below (suc d) k n j h =
    (other (n % 2) k j (registers_from d (suc k) (n / 2)) (λ e. omega arith)).1 (free_below d (suc k) (n / 2) j (omega arith))

-- Bit j of n is for $(k + j), where $k is the first register

first_bit : (b k : ℕ) (l : List ℕ) → Free k l → Free k (cons_if b k l) ↔ b ≡ 0
first_bit zero k l f = (λ h. refl, λ e. f)
first_bit (suc b) k l f = (λ h. absurd (h.0 refl), λ e. absurd (omega arith))

bits : (d k n j : ℕ) → j < d → Free (k + j) (registers_from d k n) ↔ (n / 2 ^ j) % 2 ≡ 0
unfolding registers_from
bits zero k n j h = absurd (omega arith)
bits (suc d) k n zero h =
    rw (add-zero, div-one) (first_bit (n % 2) k (registers_from d (suc k) (n / 2)) (free_below d (suc k) (n / 2) k (omega arith)))
bits (suc d) k n (suc j) h =
    let i : k + suc j ≡ suc k + j = omega arith in
    let q : n / 2 ^ suc j ≡ n / 2 / 2 ^ j = rw (pow-succ' 2 j, ← div-div-eq-div-mul n 2 (2 ^ j)) in
    rw (i, q)
    (Iff.trans (other (n % 2) k (suc k + j) (registers_from d (suc k) (n / 2)) (λ e. omega arith)) (bits d (suc k) (n / 2) j (omega arith)))

-- "bit k set means that $k may be used", and it may be used only then
pub outside_exactly : (pool k : ℕ) → k < 64 → Free k (registers_of pool) ↔ (pool / 2 ^ k) % 2 ≡ 0
unfolding registers_of
outside_exactly pool k h = rw zero-add at (bits 64 0 pool k h)

-- Where bit 0 is clear

one_more : (b k : ℕ) (l : List ℕ) → 0 < k → k < 64 → Free k l → Pool l → Pool (cons_if b k l)
one_more zero k l h g f p = p
one_more (suc b) k l h g f p = (h, g, f, p)

pool_from : (d k n : ℕ) → 0 < k → k + d ≤ 64 → Pool (registers_from d k n)
unfolding registers_from
pool_from zero k n h g = tt
pool_from (suc d) k n h g =
    one_more (n % 2) k (registers_from d (suc k) (n / 2)) h (omega arith) (free_below d (suc k) (n / 2) k (omega arith))
    (pool_from d (suc k) (n / 2) (omega arith) (omega arith))

-- without bit 0 the registers are those from $1 on
bit_clear : (d n : ℕ) → n % 2 ≡ 0 → registers_from (suc d) 0 n ≡ registers_from d 1 (n / 2)
unfolding registers_from
bit_clear d n e = ap (λ (b : ℕ). cons_if b 0 (registers_from d 1 (n / 2))) e

pub pool_registers : (pool : ℕ) → pool % 2 ≡ 0 → Pool (registers_of pool)
unfolding registers_of
pool_registers pool e = subst Pool (sym (bit_clear 63 pool e)) (pool_from 63 1 (pool / 2) (omega arith) (omega arith))
