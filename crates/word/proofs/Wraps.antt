-- The wrapping operations of the processor give the word of the exact result.
-- Assumes nothing.
use Rattle.std.proofs.Common.{◌≡◌, ℕ, ◌+◌, ◌-◌, ◌*◌, ◌%◌, ◌<◌, ◌≤◌, Bool, true, false, ltb, ℤ, pos, negsuc, ◌+ℤ◌, ◌-ℤ◌, ◌*ℤ◌, sym, refl, ap, ap₂, ◌∙◌, arith, ltb-false, ltb-true, le-ltb, lt-ltb, zero, suc}
use Rattle.std.proofs.lemmas.Int.{of_z-to_z, wrapping_add-bits, wrapping_sub-bits, wrapping_mul-bits}
use Rattle.std.specs.Int.{w32, cast_signed, cast_unsigned, int_wrap}
use lib.IntN.{sub_ℕ}
use Rattle.word.specs.Word.{Word, signed, word_of, sum_of, difference_of, product_of}
use Rattle.word.proofs.Biased.{sub_shift}
use Rattle.word.proofs.Signed.{cast_signed_is_signed}

word_is_word : (z : ℤ) → Word (word_of z)
unfolding word_of
word_is_word (pos n) = omega arith
word_is_word (negsuc n) = omega arith

-- what std leaves of an exact number is its word
word_wraps : (z : ℤ) → int_wrap w32 z ≡ cast_signed w32 (word_of z)
unfolding int_wrap word_of
word_wraps (pos n) = refl
word_wraps (negsuc n) = ap (cast_signed w32) (omega arith)

-- so a word that std reads as what it leaves of an exact number is the number's word
wrapped : (z : ℤ) (w : ℕ) → Word w → cast_signed w32 w ≡ int_wrap w32 z → w ≡ word_of z
wrapped z w h e =
    sym (of_z-to_z w32 w h) ∙ ap (cast_unsigned w32) (e ∙ word_wraps z) ∙ of_z-to_z w32 (word_of z) (word_is_word z)

module _ (a b : ℕ) (ha : a < 4294967296) (hb : b < 4294967296) where
  pub sum_law : (a + b) % 4294967296 ≡ sum_of a b
  unfolding sum_of
  sum_law =
      wrapped (signed a +ℤ signed b) ((a + b) % 4294967296) (omega arith)
      (wrapping_add-bits w32 a b ha hb ∙ ap₂ (λ (x y : ℤ). int_wrap w32 (x +ℤ y)) (cast_signed_is_signed a) (cast_signed_is_signed b))

  pub difference_law : (a + (4294967296 - b)) % 4294967296 ≡ difference_of a b
  unfolding difference_of
  difference_law =
      wrapped (signed a -ℤ signed b) ((a + (4294967296 - b)) % 4294967296) (omega arith)
      (wrapping_sub-bits w32 a b ha hb ∙ ap₂ (λ (x y : ℤ). int_wrap w32 (x -ℤ y)) (cast_signed_is_signed a) (cast_signed_is_signed b))

  pub product_law : a * b % 4294967296 ≡ product_of a b
  unfolding product_of
  product_law =
      wrapped (signed a *ℤ signed b) (a * b % 4294967296) (omega arith)
      (wrapping_mul-bits w32 a b ha hb ∙ ap₂ (λ (x y : ℤ). int_wrap w32 (x *ℤ y)) (cast_signed_is_signed a) (cast_signed_is_signed b))

-- in numbers alone, for a difference of any two
wrap_sub : (x y : ℕ) → y ≤ 4294967296 → word_of (sub_ℕ x y) ≡ (x + (4294967296 - y)) % 4294967296
unfolding word_of
wrap_sub x y hy = go (ltb x y) refl
  where
    go : (t : Bool) → ltb x y ≡ t → word_of (sub_ℕ x y) ≡ (x + (4294967296 - y)) % 4294967296
    go true e = let k = ltb-true x y e in rw e (omega arith)
    go false e = let k = ltb-false x y e in rw e (omega arith)

-- a number taken from one that is not negative, and from one that is
pub pos_minus : (a b : ℕ) → pos a -ℤ pos b ≡ sub_ℕ a b
pos_minus a zero = rw (le-ltb a 0 (omega arith)) (ap pos (omega arith))
pos_minus a (suc n) = refl

pub neg_minus : (m b : ℕ) → negsuc m -ℤ pos b ≡ sub_ℕ 0 (suc m + b)
neg_minus m zero = sub_shift 0 (suc m) 0 (suc m + 0) (omega arith)
neg_minus m (suc n) = rw (lt-ltb 0 (suc m + suc n) (omega arith)) (ap negsuc (omega arith))
