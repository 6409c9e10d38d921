-- The marks say what the count says: how often a row is used, as far as once and more often.
-- Assumes nothing.
use mathlib.Core.Path.{◌≡◌, refl, sym, ap, ◌∙◌, subst}
use mathlib.Core.List.{List}
use mathlib.Core.Bool.{Bool, true, false, cond, not}
use Prim.Native.Nat.{ℕ, zero, suc, ◌+◌, ◌-◌, ◌≤◌, ◌<◌}
use native.Mathlib.Omega.{arith}
use native.Mathlib.Numerals.{add-one}
use lib.Dec.{eqb, ltb}
use lib.ListN.{length, get_or, set, length-set, length-replicate, get_or-replicate}
use lib.Seq.{get_or-set_same, get_or-set_other}
use borrow.Author.Tests.{ne_eqb, eqb-true, eqb-false, lt-ltb}
use Rattle.rule.specs.declared.mark.Mark.{Mark}
use Rattle.rule.specs.declared.mark.Mark.TheVariants.{Unmet, Once, Often}
use Rattle.rule.specs.Kind.{Class, words_of, first, second, third}
use Rattle.rule.specs.Table.{word, kind_at, node_rows}
use Rattle.refusal.specs.Refusal.{Verdict, Passes, ◌and_then◌}
use Rattle.rule.specs.Check.{rows, is_child, names, uses, misused, used_once}
use Rattle.rule.specs.Marks.{more, mark_child, mark_word, mark_words, marked, is_once, not_once, once_marked}
use Rattle.refusal.proofs.Scans.{scan_alike}
use Rattle.rule.proofs.Count.{Linked}
use Rattle.rule.proofs.Clean.{row_linked, rows_in_order}

pub marked_next : (ns : List ℕ) (i : ℕ) → marked ns (i + 1) ≡ mark_words ns i (words_of (kind_at ns i)) (marked ns i)
unfolding marked
marked_next ns i = ap (marked ns) (add-one i)

length_word : (i : ℕ) (c : Class) (w : ℕ) (l : List Mark) → length (mark_word i c w l) ≡ length l
length_word i c w l = go (is_child c) (ltb w i)
  where
    go : (a b : Bool) → length (cond a (cond b (set l w (more (get_or l w Unmet))) l) l) ≡ length l
    go true true = length-set l w (more (get_or l w Unmet))
    go true false = refl
    go false b = refl

length_marked : (ns : List ℕ) (n : ℕ) → length (marked ns n) ≡ 1024
unfolding marked
length_marked ns zero = length-replicate {A = Mark} 1024 Unmet
length_marked ns (suc i) = simp length_word (length_marked ns i)

-- the mark of a row that is used so often
abbrev mark_of : ℕ → Mark
mark_of zero = Unmet
mark_of (suc zero) = Once
mark_of (suc (suc u)) = Often

more_is : (u : ℕ) → more (mark_of u) ≡ mark_of (suc u)
more_is zero = refl
more_is (suc zero) = refl
more_is (suc (suc u)) = refl

mark_word_lem : (i : ℕ) (c : Class) (w j u : ℕ) (l : List Mark) → (is_child c ≡ true → w < i) → j < length l → get_or l j Unmet ≡ mark_of u → get_or (mark_word i c w l) j Unmet ≡ mark_of (u + names j c w)
mark_word_lem i c w j u l below h e = go (is_child c) below
  where
    at : (b : Bool) → eqb w j ≡ b → get_or (set l w (more (get_or l w Unmet))) j Unmet ≡ mark_of (u + cond b 1 0)
    at true q =
        let s : w ≡ j = eqb-true w j q in
        subst (λ (k : ℕ). get_or (set l k (more (get_or l k Unmet))) j Unmet ≡ mark_of (u + 1)) (sym s)
        (get_or-set_same l j (more (get_or l j Unmet)) Unmet h ∙ ap more e ∙ more_is u ∙ ap mark_of (sym (add-one u)))
    at false q = get_or-set_other l w j (more (get_or l w Unmet)) Unmet (λ s. eqb-false w j q (sym s)) ∙ e ∙ ap mark_of (omega arith)

    go : (b : Bool) → (b ≡ true → w < i) → get_or (cond b (mark_child i w l) l) j Unmet ≡ mark_of (u + cond b (cond (eqb w j) 1 0) 0)
    go true k =
        ap (λ (t : Bool). get_or (cond t (set l w (more (get_or l w Unmet))) l) j Unmet) (lt-ltb w i (k refl)) ∙ at (eqb w j) refl
    go false k = e ∙ ap mark_of (omega arith)

module _ (ns : List ℕ) where
  pub marks_count : (n : ℕ) → ((i : ℕ) → i < n → Linked ns i i) → (j : ℕ) → j < 1024 → get_or (marked ns n) j Unmet ≡ mark_of (uses ns n j)
  unfolding marked uses
  marks_count zero linked j h = get_or-replicate 1024 j Unmet Unmet h
  marks_count (suc i) linked j h =
      let k = words_of (kind_at ns i) in
      let l₀ = marked ns i in
      let below = linked i (omega arith) in
      let h₀ : j < length l₀ = rw (length_marked ns i) h in
      let l₁ = mark_word i (first k) (word ns i 1) l₀ in
      let l₂ = mark_word i (second k) (word ns i 2) l₁ in
      let h₁ : j < length l₁ = rw (length_word i (first k) (word ns i 1) l₀) h₀ in
      let h₂ : j < length l₂ = rw (length_word i (second k) (word ns i 2) l₁) h₁ in
      let u = uses ns i j in
      let e₁ = mark_word_lem i (first k) (word ns i 1) j u l₀ below.left h₀ (marks_count i (λ m lt. linked m (omega arith)) j h) in
      let e₂ = mark_word_lem i (second k) (word ns i 2) j (u + names j (first k) (word ns i 1)) l₁ below.middle h₁ e₁ in
      mark_word_lem i (third k) (word ns i 3) j (u + names j (first k) (word ns i 1) + names j (second k) (word ns i 2)) l₂ below.right h₂ e₂
      ∙ ap mark_of (omega arith)

  mark_tells : (u : ℕ) → is_once (mark_of u) ≡ eqb u 1
  mark_tells zero = refl
  mark_tells (suc zero) = refl
  mark_tells (suc (suc u)) = sym (ne_eqb (suc (suc u)) 1 (λ q. omega arith))

  -- refusal 10 told from the marks is refusal 10
  pub marks_tell : node_rows ns ≤ 1024 → ((i : ℕ) → i < node_rows ns → Linked ns i i) → once_marked (marked ns (node_rows ns)) (node_rows ns) ≡ used_once ns
  unfolding once_marked used_once
  marks_tell h linked =
      scan_alike (λ j. 10) (not_once (marked ns (node_rows ns))) (misused ns) (node_rows ns - 1)
      (λ j lt. ap not (ap is_once (marks_count (node_rows ns) linked j (omega arith)) ∙ mark_tells (uses ns (node_rows ns) j)))

  pub marks_then : (ds : List ℕ) → node_rows ns ≤ 1024 → rows ds ns ≡ Passes → once_marked (marked ns (node_rows ns)) (node_rows ns) ≡ rows ds ns and_then used_once ns
  marks_then ds h e =
      marks_tell h (λ i lt. row_linked ds ns i (rows_in_order ds ns e i lt)) ∙ ap (λ (v : Verdict). v and_then used_once ns) (sym e)
