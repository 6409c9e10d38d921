-- A word's signed number: itself or itself less 2^32, and so what std's `cast_signed` gives.
-- Assumes nothing.
use Rattle.std.proofs.Common.{◌≡◌, ℕ, ◌-◌, Bool, true, false, cond, nat_lt, ltb, pos, negsuc, ap, ap₂, arith}
use Rattle.std.specs.Prelude.{int_lt}
use Rattle.std.specs.Int.{w32, cast_signed}
use Rattle.word.specs.Word.{signed, less_of}

pub signed_low : (a : ℕ) → ltb a 2147483648 ≡ true → signed a ≡ pos a
unfolding signed
signed_low a e = ap (λ (t : Bool). cond t (pos a) (negsuc (4294967295 - a))) e

pub signed_high : (a : ℕ) → ltb a 2147483648 ≡ false → signed a ≡ negsuc (4294967295 - a)
unfolding signed
signed_high a e = ap (λ (t : Bool). cond t (pos a) (negsuc (4294967295 - a))) e

pub cast_signed_is_signed : (a : ℕ) → cast_signed w32 a ≡ signed a
unfolding signed
cast_signed_is_signed a = ap (λ (n : ℕ). cond (nat_lt a 2147483648) (pos a) (negsuc n)) (omega arith)

-- "Comparison is signed."
pub less_law : (a b : ℕ) → int_lt (cast_signed w32 a) (cast_signed w32 b) ≡ less_of a b
unfolding less_of
less_law a b = ap₂ int_lt (cast_signed_is_signed a) (cast_signed_is_signed b)
