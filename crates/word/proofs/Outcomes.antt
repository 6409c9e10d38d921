-- Each function's promise leaves room for one outcome: two results that meet it are equal.
-- Assumes nothing.
use Rattle.std.proofs.Common.{◌≡◌, ℕ, Bool, sym, ◌∙◌}
use Rattle.word.specs.Word.{sum_of, difference_of, product_of, less_of}

module _ (a b : ℕ) where
  pub one_sum : (r s : ℕ) → r ≡ sum_of a b → s ≡ sum_of a b → r ≡ s
  one_sum r s p q = p ∙ sym q

  pub one_difference : (r s : ℕ) → r ≡ difference_of a b → s ≡ difference_of a b → r ≡ s
  one_difference r s p q = p ∙ sym q

  pub one_product : (r s : ℕ) → r ≡ product_of a b → s ≡ product_of a b → r ≡ s
  one_product r s p q = p ∙ sym q

  pub one_less : (r s : Bool) → r ≡ less_of a b → s ≡ less_of a b → r ≡ s
  one_less r s p q = p ∙ sym q
