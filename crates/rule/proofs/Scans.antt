-- Rows that are refused by their numbers, found by going through them from the lowest.
-- Assumes nothing.
use mathlib.Core.Path.{◌≡◌, sym, ap, ◌∙◌}
use Prim.Native.Nat.{ℕ, ◌+◌, ◌≤◌, ◌<◌}
use borrow.Author.Tests.{lt-ltb, le-ltb}
use Rattle.refusal.proofs.Scans.{scan_from, scan_hit, scan_miss, rows_in_turn}
use Rattle.refusal.specs.Refusal.{Verdict, Refuses, ◌and_then◌}
use Rattle.rule.specs.Check.{refused, verdict_at}

abbrev pub numbered_from : (ℕ → ℕ) → ℕ → ℕ → Verdict
numbered_from f n i = scan_from f (λ j. refused (f j)) n i

module _ (f : ℕ → ℕ) (n i k : ℕ) (h : i < n) (e : k ≡ f i) where
  pub numbered_hit : k < 10 → numbered_from f n i ≡ Refuses k i
  numbered_hit l = scan_hit f (λ j. refused (f j)) n i h (lt-ltb (f i) 10 (rw e at l)) ∙ ap (λ (m : ℕ). Refuses m i) (sym e)

  pub numbered_miss : 10 ≤ k → numbered_from f n i ≡ numbered_from f n (i + 1)
  numbered_miss l = scan_miss f (λ j. refused (f j)) n i h (le-ltb (f i) 10 (rw e at l))

-- row i is checked, and then those after it
pub row_in_turn : (f : ℕ → ℕ) (n i : ℕ) → i < n → {v : Verdict} → v ≡ verdict_at (f i) i → numbered_from f n i ≡ v and_then numbered_from f n (i + 1)
row_in_turn f n i h e =
    rows_in_turn f (λ j. refused (f j)) n i h ∙ ap (λ (w : Verdict). w and_then numbered_from f n (i + 1)) (sym e)
