-- A word with 2^31 added, wrapped: sums of two give the exact address.
-- Assumes nothing.
use Rattle.std.proofs.Common.{◌≡◌, ℕ, suc, ◌+◌, ◌-◌, ◌%◌, ◌<◌, ◌≤◌, Bool, true, false, ltb, pos, negsuc, ◌+ℤ◌, sym, refl, ap, ◌∙◌, subst, arith, ltb-false, ltb-true, le-ltb, lt-ltb}
use lib.IntN.{sub_ℕ}
use Rattle.word.specs.Word.{signed, address_of, cell_of, At, Nowhere}
pub use Rattle.word.proofs.Signed.{signed_low, signed_high}
pub use Rattle.word.proofs.Cells.{cell_within}

-- a word with 2^31 added, wrapped: 0 for the least signed number
abbrev pub biased : ℕ → ℕ
biased a = (a + 2147483648) % 4294967296

-- the signed number in 64 bits, wrapped: 2^31 less than the biased word
abbrev pub long : ℕ → ℕ
long a = (biased a + 18446744071562067968) % 18446744073709551616

-- the sum of two such numbers, of the biased words x and y, is the exact one
module _ (x y s : ℕ) (hx : x < 4294967296) (hy : y < 4294967296) (sum : s ≡ ((x + 18446744071562067968) % 18446744073709551616 + (y + 18446744071562067968) % 18446744073709551616) % 18446744073709551616) where
  long_sum : 4294967296 ≤ x + y → s ≡ x + y - 4294967296
  long_sum h = omega arith

  long_negative : x + y < 4294967296 → s ≡ x + y + 18446744069414584320
  long_negative h = omega arith

-- and a negative one is past every memory
no_cell : (z s size : ℕ) → size ≤ 65536 → s ≡ z + 18446744069414584320 → s < size → ⊥
no_cell z s size few e h = omega arith

-- two tests agree where each one's fact gives the other's
pub ltb_same : (x y a b : ℕ) → (x < y → a < b) → (a < b → x < y) → ltb x y ≡ ltb a b
ltb_same x y a b f g = go (ltb a b) refl
  where
    go : (t : Bool) → ltb a b ≡ t → ltb x y ≡ ltb a b
    go true e = lt-ltb x y (g (ltb-true a b e)) ∙ sym e
    go false e = le-ltb x y (let h = ltb-false a b e in other h) ∙ sym e
      where
        split : (t : Bool) → ltb x y ≡ t → b ≤ a → y ≤ x
        split true q h = let z = f (ltb-true x y q) in omega arith
        split false q h = ltb-false x y q

        other : b ≤ a → y ≤ x
        other h = split (ltb x y) refl h

-- a difference depends on how far apart the two numbers are alone
pub sub_shift : (x y u v : ℕ) → x + v ≡ u + y → sub_ℕ x y ≡ sub_ℕ u v
sub_shift x y u v h = go (ltb x y) refl
  where
    go : (t : Bool) → ltb x y ≡ t → sub_ℕ x y ≡ sub_ℕ u v
    go true e =
        let k = ltb-true x y e in
        rw (e, lt-ltb u v (omega arith)) (ap negsuc (omega arith))
    go false e =
        let k = ltb-false x y e in
        rw (e, le-ltb u v (omega arith)) (ap pos (omega arith))

-- the exact sum of two words is the sum of the biased words, less 2^32
pub address_law : (a b : ℕ) → a < 4294967296 → b < 4294967296 → signed a +ℤ signed b ≡ sub_ℕ (biased a + biased b) 4294967296
address_law a b ha hb = go (ltb a 2147483648) refl (ltb b 2147483648) refl
  where
    go : (s : Bool) → ltb a 2147483648 ≡ s → (t : Bool) → ltb b 2147483648 ≡ t → signed a +ℤ signed b ≡ sub_ℕ (biased a + biased b) 4294967296
    go true p true q =
        let h = ltb-true a _ p in let k = ltb-true b _ q in
        rw (signed_low a p, signed_low b q, le-ltb (biased a + biased b) 4294967296 (omega arith)) (ap pos (omega arith))
    go true p false q =
        let h = ltb-true a _ p in let k = ltb-false b _ q in
        rw (signed_low a p, signed_high b q)
        (sub_shift a (suc (4294967295 - b)) (biased a + biased b) 4294967296 (omega arith))
    go false p true q =
        let h = ltb-false a _ p in let k = ltb-true b _ q in
        rw (signed_high a p, signed_low b q)
        (sub_shift b (suc (4294967295 - a)) (biased a + biased b) 4294967296 (omega arith))
    go false p false q =
        let h = ltb-false a _ p in let k = ltb-false b _ q in
        rw (signed_high a p, signed_high b q, lt-ltb (biased a + biased b) 4294967296 (omega arith)) (ap negsuc (omega arith))

-- what an address sum leads to, by the biased words
module _ (a b size : ℕ) (ha : a < 4294967296) (hb : b < 4294967296) where
  tied : address_of a b ≡ sub_ℕ (biased a + biased b) 4294967296
  unfolding address_of
  tied = address_law a b ha hb

  cell_below : biased a + biased b < 4294967296 → Nowhere ≡ cell_of (address_of a b) size
  unfolding cell_of
  cell_below h = rw (tied, lt-ltb (biased a + biased b) 4294967296 h)

  cell_in : 4294967296 ≤ biased a + biased b → biased a + biased b - 4294967296 < size → At (biased a + biased b - 4294967296) ≡ cell_of (address_of a b) size
  unfolding cell_of
  cell_in h k = rw (tied, le-ltb (biased a + biased b) 4294967296 h, lt-ltb (biased a + biased b - 4294967296) size k)

  cell_past : 4294967296 ≤ biased a + biased b → size ≤ biased a + biased b - 4294967296 → Nowhere ≡ cell_of (address_of a b) size
  unfolding cell_of
  cell_past h k = rw (tied, le-ltb (biased a + biased b) 4294967296 h, le-ltb (biased a + biased b - 4294967296) size k)

  -- the sum in 64 bits is the exact address, or past every memory where that is negative
  module _ (s : ℕ) (few : size ≤ 65536) (sum : s ≡ (long a + long b) % 18446744073709551616) where
    abbrev exactly : 4294967296 ≤ biased a + biased b → s ≡ biased a + biased b - 4294967296
    exactly = long_sum (biased a) (biased b) s (omega arith) (omega arith) sum

    abbrev negatively : biased a + biased b < 4294967296 → s ≡ biased a + biased b + 18446744069414584320
    negatively = long_negative (biased a) (biased b) s (omega arith) (omega arith) sum

    pub long_inside : s < size → At s ≡ cell_of (address_of a b) size
    long_inside h = go (ltb (biased a + biased b) 4294967296) refl
      where
        go : (t : Bool) → ltb (biased a + biased b) 4294967296 ≡ t → At s ≡ cell_of (address_of a b) size
        go true e = absurd (no_cell (biased a + biased b) s size few (negatively (ltb-true _ _ e)) h)
        go false e =
            let k = ltb-false (biased a + biased b) 4294967296 e in
            ap At (exactly k) ∙ cell_in k (subst (λ (n : ℕ). n < size) (exactly k) h)

    pub long_outside : size ≤ s → Nowhere ≡ cell_of (address_of a b) size
    long_outside h = go (ltb (biased a + biased b) 4294967296) refl
      where
        go : (t : Bool) → ltb (biased a + biased b) 4294967296 ≡ t → Nowhere ≡ cell_of (address_of a b) size
        go true e = cell_below (ltb-true _ _ e)
        go false e =
            let k = ltb-false (biased a + biased b) 4294967296 e in
            cell_past k (subst (λ (n : ℕ). size ≤ n) (exactly k) h)
