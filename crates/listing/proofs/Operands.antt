-- The words of a load and of a store: which comes first, and nothing after the last.
-- Assumes nothing.
use mathlib.Core.Path.{◌≡◌, ap}
use mathlib.Core.List.{List, ◌++◌, append-nil}
use Prim.Native.Nat.{ℕ}
use Rattle.decimal.specs.Bytes.{bytes}
use Rattle.decimal.specs.Decimal.{numeral}
use Rattle.instruction.specs.declared.Form.TheVariants.{Load, Store}
use Rattle.listing.specs.Line.{address_word, operand_words, blanked}

module _ (a b c : ℕ) where
  pub load_written : blanked (operand_words Load a b c) ≡ (bytes " $" ++ numeral a) ++ (bytes " " ++ address_word b c)
  load_written = ap (λ (k : List ℕ). (bytes " $" ++ numeral a) ++ k) (append-nil (bytes " " ++ address_word b c))

  pub store_written : blanked (operand_words Store a b c) ≡ (bytes " " ++ address_word a b) ++ (bytes " $" ++ numeral c)
  store_written = ap (λ (k : List ℕ). (bytes " " ++ address_word a b) ++ k) (append-nil (bytes " $" ++ numeral c))
