-- The first failing row, found by going through the rows from the lowest.
-- Assumes nothing.
use mathlib.Core.Path.{◌≡◌, refl, sym, ap, ◌∙◌}
use mathlib.Core.Logic.{⊎_elim}
use mathlib.Core.Bool.{Bool, true, false, cond}
use Prim.Native.Nat.{ℕ, zero, suc, ◌+◌, ◌-◌, ◌≤◌, ◌<◌}
use native.Mathlib.Nat.{eq-or-lt_of_le}
use native.Mathlib.Omega.{arith}
use native.Mathlib.Numerals.{add-one}
use lib.Dec.{ltb}
use borrow.Author.Tests.{ltb-false, lt-ltb, le-ltb}
use Rattle.refusal.specs.Refusal.{Verdict, Passes, Refuses, ◌and_then◌, lowest_from, refused_at, first_refused}

-- a row of the table is named with its number; a row after it is none
module _ (f : ℕ → ℕ) (n i : ℕ) where
  row_named : i < n → refused_at f n i ≡ Refuses (f i) i
  row_named h = rw (lt-ltb i n h)

  none_named : n ≤ i → refused_at f n i ≡ Passes
  none_named h = rw (le-ltb i n h)

-- a row that fails is found, whatever comes after it; else the search goes on
module _ (p : ℕ → Bool) (m i : ℕ) where
  first_found : p i ≡ true → lowest_from p (suc m) i ≡ i
  unfolding lowest_from
  first_found e = rw e

  next_found : p i ≡ false → lowest_from p (suc m) i ≡ lowest_from p m (suc i)
  unfolding lowest_from
  next_found e = rw e

-- the verdict, where the rows below i are in order
abbrev pub scan_from : (ℕ → ℕ) → (ℕ → Bool) → ℕ → ℕ → Verdict
scan_from f p n i = refused_at f n (lowest_from p (n - i) i)

module _ (f : ℕ → ℕ) (p : ℕ → Bool) (n : ℕ) where
  pub scan_start : first_refused f p n ≡ scan_from f p n 0
  scan_start = ap (λ (m : ℕ). refused_at f n (lowest_from p m 0)) (omega arith)

  module _ (i : ℕ) where
    one_more : i < n → n - i ≡ suc (n - (i + 1))
    one_more h = omega arith

    pub scan_hit : i < n → p i ≡ true → scan_from f p n i ≡ Refuses (f i) i
    scan_hit h e =
        ap (λ (m : ℕ). refused_at f n (lowest_from p m i)) (one_more h)
        ∙ ap (refused_at f n) (first_found p (n - (i + 1)) i e)
        ∙ row_named f n i h

    pub scan_miss : i < n → p i ≡ false → scan_from f p n i ≡ scan_from f p n (i + 1)
    scan_miss h e =
        ap (λ (m : ℕ). refused_at f n (lowest_from p m i)) (one_more h)
        ∙ ap (refused_at f n) (next_found p (n - (i + 1)) i e ∙ ap (lowest_from p (n - (i + 1))) (sym (add-one i)))

    -- row i is checked, and then those after it
    pub rows_in_turn : i < n → scan_from f p n i ≡ cond (p i) (Refuses (f i) i) Passes and_then scan_from f p n (i + 1)
    rows_in_turn h = go (p i) refl
      where
        go : (b : Bool) → p i ≡ b → scan_from f p n i ≡ cond b (Refuses (f i) i) Passes and_then scan_from f p n (i + 1)
        go true e = scan_hit h e
        go false e = scan_miss h e

    pub scan_end : n ≤ i → scan_from f p n i ≡ Passes
    unfolding lowest_from
    scan_end h =
        let e : n - i ≡ 0 = omega arith in
        ap (λ (m : ℕ). refused_at f n (lowest_from p m i)) e ∙ none_named f n i h

-- where no row fails, none is refused
pub scan_all : (f : ℕ → ℕ) (p : ℕ → Bool) (n : ℕ) → ((j : ℕ) → j < n → p j ≡ false) → first_refused f p n ≡ Passes
scan_all f p n e = scan_start f p n ∙ go n 0 (omega arith)
  where
    go : (m i : ℕ) → i + m ≡ n → scan_from f p n i ≡ Passes
    go zero i h = scan_end f p n i (omega arith)
    go (suc m) i h = let k : i < n = omega arith in scan_miss f p n i k (e i k) ∙ go m (i + 1) (omega arith)

-- where no row is found, none fails
none_found : (p : ℕ → Bool) (m i : ℕ) → i + m ≤ lowest_from p m i → (j : ℕ) → i ≤ j → j < i + m → p j ≡ false
unfolding lowest_from
none_found p zero i h j l u = absurd (omega arith)
none_found p (suc m) i h j l u = go (p i) refl h (λ r lt. none_found p m (suc i) r j lt (omega arith))
  where
    go : (b : Bool) → p i ≡ b → i + suc m ≤ cond b i (lowest_from p m (suc i)) → (suc i + m ≤ lowest_from p m (suc i) → i < j → p j ≡ false) → p j ≡ false
    go true q r k = absurd (omega arith)
    go false q r k = ⊎_elim (λ (s : i ≡ j). ap p (sym s) ∙ q) (λ (lt : i < j). k (omega arith) lt) (eq-or-lt_of_le l)

pub scan_passes : (f : ℕ → ℕ) (p : ℕ → Bool) (n : ℕ) → first_refused f p n ≡ Passes → (j : ℕ) → j < n → p j ≡ false
scan_passes f p n e j h = let g = go (ltb (lowest_from p n 0) n) refl e in none_found p n 0 (omega arith) j (omega arith) (omega arith)
  where
    go : (b : Bool) → ltb (lowest_from p n 0) n ≡ b → cond b (Refuses (f (lowest_from p n 0)) (lowest_from p n 0)) Passes ≡ Passes → n ≤ lowest_from p n 0
    go true q r = let z : ◌≡◌ {A = ℕ} 0 1 = cc in absurd (omega arith)
    go false q r = ltb-false (lowest_from p n 0) n q

-- two tests that agree on the rows find the same one
found_alike : (p q : ℕ → Bool) (m i : ℕ) → ((j : ℕ) → i ≤ j → j < i + m → p j ≡ q j) → lowest_from p m i ≡ lowest_from q m i
unfolding lowest_from
found_alike p q zero i e = refl
found_alike p q (suc m) i e =
    ap (λ (b : Bool). cond b i (lowest_from p m (suc i))) (e i (omega arith) (omega arith))
    ∙ ap (cond (q i) i) (found_alike p q m (suc i) (λ j l u. e j (omega arith) (omega arith)))

pub scan_alike : (f : ℕ → ℕ) (p q : ℕ → Bool) (n : ℕ) → ((j : ℕ) → j < n → p j ≡ q j) → first_refused f p n ≡ first_refused f q n
scan_alike f p q n e = ap (refused_at f n) (found_alike p q n 0 (λ j l u. e j (omega arith)))
