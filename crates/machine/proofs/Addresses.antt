-- The cell at an address: the exact sum of two signed words, read in 64 bits without its sign.
-- Assumes nothing.
use Rattle.std.proofs.Common.{◌≡◌, ℕ, suc, ◌-◌, ◌<◌, ◌≤◌, Bool, true, false, cond, ltb, ℤ, pos, negsuc, ◌+ℤ◌, ◌≤ℤ◌, refl, ap, ◌∙◌, arith, le-ltb}
use Rattle.std.specs.Bool.{then_some}
use Rattle.std.proofs.lemmas.Int.{ints}
use Rattle.std.specs.Int.{w32, w64, cast_signed, cast_unsigned}
use Rattle.word.specs.Word.{address_of, cell_of, At, Nowhere}
use Rattle.word.proofs.Cells.{address_sum}
use Rattle.machine.specs.Inside.{cell_said}

-- an exact number that is negative is, without its sign, larger than any size
cell_of_exact : (z : ℤ) (size : ℕ) → negsuc 4294967295 ≤ℤ z → size ≤ 65536
    → cell_said (then_some (ltb (cast_unsigned w64 z) size) (cast_unsigned w64 z)) ≡ cell_of z size
unfolding cell_of
cell_of_exact (pos n) size low few = go (ltb n size)
  where
    go : (t : Bool) → cell_said (then_some t n) ≡ cond t (At n) Nowhere
    go true = refl
    go false = refl
cell_of_exact (negsuc n) size low few = rw (le-ltb (18446744073709551616 - suc n) size (far low))
  where
    far : negsuc 4294967295 ≤ℤ negsuc n → size ≤ 18446744073709551616 - suc n
    far h = omega (arith, ints)

-- "An address is base plus index as an exact sum that does not wrap."
module _ (base index size : ℕ) (hb : base < 4294967296) (hi : index < 4294967296) (few : size ≤ 65536) where
  abbrev sum : ℤ
  sum = cast_signed w32 base +ℤ cast_signed w32 index

  pub cell_of_sum : cell_said (then_some (ltb (cast_unsigned w64 sum) size) (cast_unsigned w64 sum)) ≡ cell_of (address_of base index) size
  cell_of_sum = cell_of_exact sum size (omega (arith, ints)) few ∙ ap (λ (z : ℤ). cell_of z size) (address_sum base index)
