-- What an address leads to: the cell that the exact sum of two words names, if the memory has it.
-- Assumes nothing.
use Rattle.std.proofs.Common.{◌≡◌, ℕ, ◌<◌, Bool, true, false, cond, ltb, ℤ, pos, negsuc, ◌+ℤ◌, sym, refl, ap₂, ◌∙◌, arith, ltb-true}
use Rattle.std.specs.Int.{w32, cast_signed}
use Rattle.word.specs.Word.{address_of, cell_of, Cell, At, Nowhere}
use Rattle.word.proofs.Signed.{cast_signed_is_signed}

-- "An address is base plus index as an exact sum that does not wrap."
pub address_sum : (base index : ℕ) → cast_signed w32 base +ℤ cast_signed w32 index ≡ address_of base index
unfolding address_of
address_sum base index = ap₂ ◌+ℤ◌ (cast_signed_is_signed base) (cast_signed_is_signed index)

-- a cell that an address leads to is one of the memory's
pub cell_within : (z : ℤ) (size : ℕ) {o : Cell} {k : ℕ} → o ≡ cell_of z size → o ≡ At k → k < size
unfolding cell_of
cell_within (pos n) size {o} {k} e f = go (ltb n size) refl (sym e ∙ f)
  where
    go : (t : Bool) → ltb n size ≡ t → cond t (At n) Nowhere ≡ At k → k < size
    go true p q = let h = ltb-true n size p in let i : n ≡ k = cc in omega arith
    go false p q = let i : Nowhere ≡ At k = q in cc
cell_within (negsuc n) size {o} {k} e f = let g : Nowhere ≡ At k = sym e ∙ f in cc
