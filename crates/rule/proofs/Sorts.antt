-- A row's kind by its number: which numbers are expressions, commands, binary, and none.
-- Assumes nothing.
use mathlib.Core.Path.{◌≡◌, refl, sym, ap, ◌∙◌}
use mathlib.Core.Logic.{⊎_elim}
use mathlib.Core.Bool.{Bool, true, false, not, ◌&&◌}
use Prim.Native.Nat.{ℕ, zero, suc, ◌-◌, ◌≤◌, ◌<◌}
use native.Mathlib.Nat.{eq-or-lt_of_le, le_of_suc-le-suc, not-suc-le-zero}
use native.Mathlib.Omega.{arith}
use lib.Dec.{ltb, leb}
use lib.ListN.{get_or-eq_default}
use borrow.Author.Tests.{ltb-true, ltb-false, lt-leb, not-true}
use Rattle.rule.specs.Kind.{Kind, unknown, kinds, kind_of, three, none, unused, expression, words_of, is_expression, is_command}
use Rattle.rule.specs.Check.{among}
use Rattle.rule.proofs.Verdicts.{both_hold}

abbrev same : Bool → Bool → Bool
same true t = t
same false t = not t

same_true : (s t : Bool) → same s t ≡ true → s ≡ t
same_true true t e = sym e
same_true false t e = sym (not-true t e)

-- two tests that are found to agree on the numbers below n
abbrev agree : ℕ → (ℕ → Bool) → (ℕ → Bool) → Bool
agree zero p q = true
agree (suc n) p q = same (p n) (q n) && agree n p q

agree_at : (n : ℕ) (p q : ℕ → Bool) → agree n p q ≡ true → (k : ℕ) → k < n → p k ≡ q k
agree_at zero p q e k h = absurd (not-suc-le-zero h)
agree_at (suc n) p q e k h =
    let both = both_hold (same (p n) (q n)) (agree n p q) e in
    ⊎_elim
    (λ (s : k ≡ n). ap p s ∙ same_true (p n) (q n) both.0 ∙ ap q (sym s))
    (λ (lt : k < n). agree_at n p q both.1 k lt)
    (eq-or-lt_of_le (le_of_suc-le-suc h))

and_false : (s : Bool) → s && false ≡ false
and_false true = refl
and_false false = refl

-- the table of kinds against a range of numbers
in_range : (p : Kind → Bool) (low high : ℕ) → high < 22 → p unknown ≡ false → agree 22 (λ n. p (kind_of n)) (among low high) ≡ true → (k : ℕ) → p (kind_of k) ≡ among low high k
in_range p low high h u e k = go (ltb k 22) refl
  where
    go : (b : Bool) → ltb k 22 ≡ b → p (kind_of k) ≡ among low high k
    go true q = agree_at 22 (λ n. p (kind_of n)) (among low high) e k (ltb-true k 22 q)
    go false q =
        let l = ltb-false k 22 q in
        ap p (get_or-eq_default kinds unknown l) ∙ u ∙ sym (ap (λ (t : Bool). leb low k && t) (lt-leb k high (omega arith)) ∙ and_false (leb low k))

pub expression_kind : (k : ℕ) → is_expression (kind_of k) ≡ among 1 11 k
expression_kind = in_range is_expression 1 11 (omega arith) refl refl

pub command_kind : (k : ℕ) → is_command (kind_of k) ≡ among 16 21 k
command_kind = in_range is_command 16 21 (omega arith) refl refl

binary_words : (k : ℕ) → k ≤ 6 → words_of (kind_of (suc (suc (suc (suc k))))) ≡ three expression expression unused
binary_words zero h = refl
binary_words (suc zero) h = refl
binary_words (suc (suc zero)) h = refl
binary_words (suc (suc (suc zero))) h = refl
binary_words (suc (suc (suc (suc zero)))) h = refl
binary_words (suc (suc (suc (suc (suc zero))))) h = refl
binary_words (suc (suc (suc (suc (suc (suc zero)))))) h = refl
binary_words (suc (suc (suc (suc (suc (suc (suc k))))))) h = absurd (omega arith)

-- a number from k on that is not k is above it
above : (k o : ℕ) → k ≤ o → (o ≡ k → ⊥) → suc k ≤ o
above k o h n = omega arith

-- of the numbers 1 to 10 those that are not 1, 2 or 3 are binary
pub binary_kind : (k : ℕ) → 1 ≤ k → k < 11 → (k ≡ 1 → ⊥) → (k ≡ 2 → ⊥) → (k ≡ 3 → ⊥) → words_of (kind_of k) ≡ three expression expression unused
binary_kind k h l n₁ n₂ n₃ = from k (above 3 k (above 2 k (above 1 k h n₁) n₂) n₃) l
  where
    from : (k : ℕ) → 4 ≤ k → k < 11 → words_of (kind_of k) ≡ three expression expression unused
    from (suc (suc (suc (suc k)))) h l = binary_words k (omega arith)
    from zero h l = absurd (omega arith)
    from (suc zero) h l = absurd (omega arith)
    from (suc (suc zero)) h l = absurd (omega arith)
    from (suc (suc (suc zero))) h l = absurd (omega arith)

-- numbers that are no kind: 0, 12 to 15, and from 22 on
pub no_kind_low : (k : ℕ) → k < 1 → words_of (kind_of k) ≡ three none none none
no_kind_low k h = let e : k ≡ 0 = omega arith in ap (λ (n : ℕ). words_of (kind_of n)) e

no_kind_from : (k : ℕ) → k < 4 → words_of (kind_of (suc (suc (suc (suc (suc (suc (suc (suc (suc (suc (suc (suc k))))))))))))) ≡ three none none none
no_kind_from zero h = refl
no_kind_from (suc zero) h = refl
no_kind_from (suc (suc zero)) h = refl
no_kind_from (suc (suc (suc zero))) h = refl
no_kind_from (suc (suc (suc (suc k)))) h = absurd (omega arith)

pub no_kind_between : (k : ℕ) → 11 ≤ k → (k ≡ 11 → ⊥) → k < 16 → words_of (kind_of k) ≡ three none none none
no_kind_between k h n₁₁ l =
    let e : k ≡ suc (suc (suc (suc (suc (suc (suc (suc (suc (suc (suc (suc (k - 12)))))))))))) = omega arith in
    ap (λ (n : ℕ). words_of (kind_of n)) e ∙ no_kind_from (k - 12) (omega arith)

pub no_kind_high : (k : ℕ) → 16 ≤ k → (k ≡ 16 → ⊥) → (k ≡ 17 → ⊥) → (k ≡ 18 → ⊥) → (k ≡ 19 → ⊥) → (k ≡ 20 → ⊥) → (k ≡ 21 → ⊥) → words_of (kind_of k) ≡ three none none none
no_kind_high k h n₁₆ n₁₇ n₁₈ n₁₉ n₂₀ n₂₁ =
    ap words_of
    (get_or-eq_default kinds unknown
    (above 21 k (above 20 k (above 19 k (above 18 k (above 17 k (above 16 k h n₁₆) n₁₇) n₁₈) n₁₉) n₂₀) n₂₁))
