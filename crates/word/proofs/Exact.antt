-- What pins the operations on words: the signed reading of a wrapping result is the exact result, wrapped.
-- Assumes nothing.
use Rattle.std.proofs.Common.{◌≡◌, ℕ, ◌-◌, ◌/◌, ◌%◌, Bool, true, false, ltb, ℤ, pos, negsuc, ◌+ℤ◌, ◌-ℤ◌, ◌*ℤ◌, refl, arith, ltb-false, ltb-true}
use Rattle.std.proofs.lemmas.Int.{ints}
use Rattle.word.specs.Word.{Word, Wrapped, signed, word_of, sum_of, difference_of, product_of}
use Rattle.word.proofs.Signed.{signed_low, signed_high}

-- an exact number, from which a word is k whole turns away: read as a signed number, the word is k or k + 1 turns away, and in the range
reading_wrapped : (z : ℤ) (w : ℕ) (k : ℤ) → Word w → z ≡ pos w +ℤ pos 4294967296 *ℤ k → Wrapped z (signed w)
reading_wrapped z w k h e = go (ltb w 2147483648) refl
  where
    go : (t : Bool) → ltb w 2147483648 ≡ t → Wrapped z (signed w)
    go true p =
        let l = ltb-true w 2147483648 p in
        rw (signed_low w p) (record { low = omega (arith, ints); high = omega (arith, ints); turns = (k, e) })
    go false p =
        let l = ltb-false w 2147483648 p in
        rw (signed_high w p) (record { low = omega (arith, ints); high = omega (arith, ints); turns = (k +ℤ pos 1, omega (arith, ints)) })

pub word_wrapped : (z : ℤ) → Wrapped z (signed (word_of z))
unfolding word_of
word_wrapped (pos n) = reading_wrapped (pos n) (n % 4294967296) (pos (n / 4294967296)) (omega arith) (omega (arith, ints))
word_wrapped (negsuc n) = reading_wrapped (negsuc n) (4294967295 - n % 4294967296) (negsuc (n / 4294967296)) (omega arith) (omega (arith, ints))

module _ (a b : ℕ) where
  pub sum_wrapped : Wrapped (signed a +ℤ signed b) (signed (sum_of a b))
  unfolding sum_of
  sum_wrapped = word_wrapped (signed a +ℤ signed b)

  pub difference_wrapped : Wrapped (signed a -ℤ signed b) (signed (difference_of a b))
  unfolding difference_of
  difference_wrapped = word_wrapped (signed a -ℤ signed b)

  pub product_wrapped : Wrapped (signed a *ℤ signed b) (signed (product_of a b))
  unfolding product_of
  product_wrapped = word_wrapped (signed a *ℤ signed b)
