-- Where every row but the last is used once, a size that adds at most K a row is at most K times the rows: each row is summed once.
-- Assumes nothing.
use mathlib.Core.Path.{◌≡◌, refl, sym, ap, ap₂, ◌∙◌}
use mathlib.Core.Logic.{⊎_elim}
use mathlib.Core.List.{List}
use mathlib.Core.Bool.{Bool, true, false, cond}
use Prim.Native.Nat.{ℕ, zero, suc, ◌+◌, ◌*◌, ◌≤◌, ◌<◌}
use native.Mathlib.Nat.{add-mul, zero-mul, one-mul, eq-or-lt_of_le, le_of_suc-le-suc, not-suc-le-zero, mul-suc, mul-zero}
use native.Mathlib.Omega.{arith}
use lib.Dec.{eqb}
use borrow.Author.Tests.{eq-eqb, ne_eqb}
use Rattle.rule.specs.Kind.{Class, Words, words_of, first, second, third}
use Rattle.rule.specs.Table.{word, kind_at}
use Rattle.rule.specs.Check.{is_child, names, uses}

-- the children of row i are below n
pub record Linked (ns : List ℕ) (i n : ℕ) : Type 0 where
  pub left : is_child (first (words_of (kind_at ns i))) ≡ true → word ns i 1 < n
  pub middle : is_child (second (words_of (kind_at ns i))) ≡ true → word ns i 2 < n
  pub right : is_child (third (words_of (kind_at ns i))) ≡ true → word ns i 3 < n

pub linked_more : (ns : List ℕ) (i m n : ℕ) → m ≤ n → Linked ns i m → Linked ns i n
linked_more ns i m n h k =
    record { left = λ e. let x = k.left e in omega arith; middle = λ e. let x = k.middle e in omega arith; right = λ e. let x = k.right e in omega arith }

unfoldable pub sum : ℕ → (ℕ → ℕ) → ℕ
sum zero g = 0
sum (suc n) g = sum n g + g n

sum_ext : (n : ℕ) (g h : ℕ → ℕ) → ((j : ℕ) → j < n → g j ≡ h j) → sum n g ≡ sum n h
unfolding sum
sum_ext zero g h e = refl
sum_ext (suc n) g h e = ap₂ ◌+◌ (sum_ext n g h (λ j lt. e j (omega arith))) (e n (omega arith))

sum_le : (n : ℕ) (g h : ℕ → ℕ) → ((j : ℕ) → j < n → g j ≤ h j) → sum n g ≤ sum n h
unfolding sum
sum_le zero g h e = omega arith
sum_le (suc n) g h e = let a = sum_le n g h (λ j lt. e j (omega arith)) in let b = e n (omega arith) in omega arith

sum_add : (n : ℕ) (g h : ℕ → ℕ) → sum n (λ j. g j + h j) ≡ sum n g + sum n h
unfolding sum
sum_add zero g h = refl
sum_add (suc n) g h = let i = sum_add n g h in omega arith

sum_const : (n k : ℕ) → sum n (λ j. k) ≡ k * n
unfolding sum
sum_const zero k = sym (mul-zero k)
sum_const (suc n) k = let i = sum_const n k in let m = mul-suc k n in omega arith

sum_zero : (n : ℕ) (g : ℕ → ℕ) → ((j : ℕ) → j < n → g j ≡ 0) → sum n g ≡ 0
unfolding sum
sum_zero zero g e = refl
sum_zero (suc n) g e = let a = sum_zero n g (λ j lt. e j (omega arith)) in let b = e n (omega arith) in omega arith

module _ (f : ℕ → ℕ) where
  hit : ℕ → ℕ → ℕ
  hit w j = cond (eqb w j) 1 0 * f j

  same : (w j : ℕ) → w ≡ j → hit w j ≡ f j
  unfolding hit
  same w j e = ap (λ (b : Bool). cond b 1 0 * f j) (eq-eqb w j e) ∙ one-mul (f j)

  apart : (w j : ℕ) → (w ≡ j → ⊥) → hit w j ≡ 0
  unfolding hit
  apart w j e = ap (λ (b : Bool). cond b 1 0 * f j) (ne_eqb w j e) ∙ zero-mul (f j)

  -- of all rows only w is hit
  delta : (n w : ℕ) → w < n → sum n (hit w) ≡ f w
  unfolding sum
  delta zero w h = absurd (not-suc-le-zero h)
  delta (suc n) w h =
      ⊎_elim
      (λ (e : w ≡ n). let a = sum_zero n (hit w) (λ j lt. apart w j (λ q. omega arith)) in let b = same w n e in let d = ap f e in omega arith)
      (λ (lt : w < n). let a = delta n w lt in let b = apart w n (λ q. omega arith) in omega arith)
      (eq-or-lt_of_le (le_of_suc-le-suc h))

  abbrev pub word_sum : Class → ℕ → ℕ
  word_sum c w = cond (is_child c) (f w) 0

  abbrev words_sum : List ℕ → ℕ → Words → ℕ
  words_sum ns i k = word_sum (first k) (word ns i 1) + (word_sum (second k) (word ns i 2) + word_sum (third k) (word ns i 3))

  -- what f gives for a row's children together
  abbrev pub row_sum : List ℕ → ℕ → ℕ
  row_sum ns i = words_sum ns i (words_of (kind_at ns i))

  word_hits : (n : ℕ) (c : Class) (w : ℕ) → (is_child c ≡ true → w < n) → sum n (λ j. names j c w * f j) ≡ word_sum c w
  unfolding hit
  word_hits n c w h = go (is_child c) h
    where
      go : (b : Bool) → (b ≡ true → w < n) → sum n (λ j. cond b (cond (eqb w j) 1 0) 0 * f j) ≡ cond b (f w) 0
      go true k = delta n w (k refl)
      go false k = sum_zero n (λ j. 0 * f j) (λ j lt. zero-mul (f j))

  module _ (ns : List ℕ) (n : ℕ) where
    -- counted along the rows, and counted along the uses
    twice : (m : ℕ) → ((i : ℕ) → i < m → Linked ns i n) → sum m (row_sum ns) ≡ sum n (λ j. uses ns m j * f j)
    unfolding sum uses
    twice zero h = sym (sum_zero n (λ j. 0 * f j) (λ j lt. zero-mul (f j)))
    twice (suc i) h =
        let k = words_of (kind_at ns i) in
        let linked = h i (omega arith) in
        let g₁ : ℕ → ℕ = λ j. names j (first k) (word ns i 1) * f j in
        let g₂ : ℕ → ℕ = λ j. names j (second k) (word ns i 2) * f j in
        let g₃ : ℕ → ℕ = λ j. names j (third k) (word ns i 3) * f j in
        ap₂ ◌+◌ (twice i (λ j lt. h j (omega arith)))
        (sym
        (sum_add n g₁ (λ j. g₂ j + g₃ j)
        ∙ ap₂ ◌+◌ (word_hits n (first k) (word ns i 1) linked.left)
        (sum_add n g₂ g₃
        ∙ ap₂ ◌+◌ (word_hits n (second k) (word ns i 2) linked.middle) (word_hits n (third k) (word ns i 3) linked.right))))
        ∙ sym (sum_add n (λ j. uses ns i j * f j) (λ j. g₁ j + (g₂ j + g₃ j)))
        ∙ sum_ext n _ _
        (λ j lt. sym
        (add-mul (uses ns i j) _ (f j)
        ∙ ap (λ (x : ℕ). uses ns i j * f j + x)
        (add-mul (names j (first k) (word ns i 1)) _ (f j)
        ∙ ap (λ (x : ℕ). g₁ j + x) (add-mul (names j (second k) (word ns i 2)) (names j (third k) (word ns i 3)) (f j)))))

  pub once_bound : (ns : List ℕ) (K n : ℕ) → ((i : ℕ) → i < suc n → f i ≤ K + row_sum ns i) → ((i : ℕ) → i < suc n → Linked ns i n) → ((j : ℕ) → j < n → uses ns (suc n) j ≡ 1) → f n ≤ K * suc n
  unfolding sum
  once_bound ns K n step linked once =
      let a = sum_le (suc n) f (λ i. K + row_sum ns i) step in
      let b = sum_add (suc n) (λ i. K) (row_sum ns) in
      let c = sum_const (suc n) K in
      let d = twice ns n (suc n) linked in
      let e = sum_ext n (λ j. uses ns (suc n) j * f j) f (λ j lt. ap (λ (u : ℕ). u * f j) (once j lt) ∙ one-mul (f j)) in
      omega arith
