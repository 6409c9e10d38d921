-- Each function's promise leaves room for one outcome: two results that meet it are equal, and so are the texts that they leave.
-- Assumes nothing.
use Rattle.std.proofs.Common.{◌≡◌, List, ℕ, Option, length, sym, ◌∙◌}
use Rattle.decimal.specs.Bytes.{written, written_at}
use Rattle.decimal.specs.Decimal.{numeral}

pub one_width : (word r s : ℕ) → r ≡ length (numeral word) → s ≡ length (numeral word) → r ≡ s
one_width word r s p q = p ∙ sym q

pub one_write : (text : List ℕ) (at word : ℕ) (r s : Option ℕ) (t u : List ℕ) → written r t ≡ written_at text at (numeral word) → written s u ≡ written_at text at (numeral word) → (r ≡ s) × (t ≡ u)
one_write text at word r s t u p q = let e = p ∙ sym q in (λ i. (e i).count, λ i. (e i).text)
