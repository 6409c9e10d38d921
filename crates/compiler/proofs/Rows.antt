-- What a row that is in order says: its tree by the trees of the rows that it names, and what each of its words names.
-- Assumes nothing.
use Rattle.std.proofs.Common.{◌≡◌, refl, sym, ap, ap₂, ◌∙◌, subst, ℕ, zero, suc, ◌+◌, ◌*◌, ◌<◌, ◌≤◌, List, [], ◌∷◌, ◌++◌, length, get_or, length-append, ⊎_elim, not-suc-le-zero, arith}
use native.Mathlib.Nat.{eq-or-lt_of_le, le_of_suc-le-suc}
use lib.ListN.{get_or-append}
use lib.Seq.{get_or_at}
use Rattle.compiler.specs.declared.code.Code.{Code}
use Rattle.rule.specs.Tree.{Binding, Exp, value, element, binary, negate, Com, skip, sequence, choose, while}
use Rattle.rule.specs.Kind.{Kind, unknown, a_value, an_ident, an_element, a_binary, a_not, a_skip, an_assign, an_assign_at, a_sequence, an_if, a_while, Class, none, expression, command, words_of}
use Rattle.rule.specs.Table.{word, kind_at, built, entry, exp_of, com_of, exp_row, com_row, exp_at, com_at}
use Rattle.rule.proofs.Clean.{InOrder, RowInOrder}
use Rattle.compiler.specs.Inside.{Rows, ExpRow, ComRow, class_at, Fit}

-- a table built up has each row's entry
module _ {A : Type 0} (d : A) (step : ℕ → (ℕ → A) → A) where
  length_built : (n : ℕ) → length (built d step n) ≡ n
  unfolding built
  length_built zero = refl
  length_built (suc n) = length-append (built d step n) (step n (λ j. get_or (built d step n) j d) ∷ []) ∙ (let h = length_built n in omega arith)

  pub built_at : (n j : ℕ) → j < n → get_or (built d step n) j d ≡ entry d step j
  unfolding built entry
  built_at zero j h = absurd (not-suc-le-zero h)
  built_at (suc n) j h =
      ⊎_elim
      (λ e. subst (λ (k : ℕ). get_or (built d step n ++ (entry d step n ∷ [])) k d ≡ entry d step k) (sym e) (get_or_at (built d step n) (entry d step n) [] d n (length_built n)))
      (λ (lt : j < n). get_or-append (built d step n) (entry d step n ∷ []) d j (subst (λ (m : ℕ). j < m) (sym (length_built n)) lt) ∙ built_at n j lt)
      (eq-or-lt_of_le (le_of_suc-le-suc h))

module _ (ds ns : List ℕ) (i : ℕ) where
  -- the trees of the rows below
  abbrev low : ℕ → Exp
  low j = get_or (built (value 0) (exp_row ns) i) j (value 0)

  abbrev low_com : ℕ → Com
  low_com j = get_or (built skip (com_row ns) i) j skip

  under : (j : ℕ) → j < i → low j ≡ exp_at ns j
  unfolding exp_at
  under j h = built_at (value 0) (exp_row ns) i j h

  under_com : (j : ℕ) → j < i → low_com j ≡ com_at ns j
  unfolding com_at
  under_com j h = built_at skip (com_row ns) i j h

  exp_by : (x : Kind) → RowInOrder ds ns i (words_of x) → exp_of low x (word ns i 1) (word ns i 2) ≡ exp_of (exp_at ns) x (word ns i 1) (word ns i 2)
  exp_by unknown r = refl
  exp_by a_value r = refl
  exp_by an_ident r = refl
  exp_by an_element r = ap (element (word ns i 1)) (under _ r.1.0)
  exp_by (a_binary op) r = ap₂ (binary op) (under _ r.0.0) (under _ r.1.0)
  exp_by a_not r = ap negate (under _ r.0.0)
  exp_by a_skip r = refl
  exp_by an_assign r = refl
  exp_by an_assign_at r = refl
  exp_by a_sequence r = refl
  exp_by an_if r = refl
  exp_by a_while r = refl

  com_by : (x : Kind) → RowInOrder ds ns i (words_of x)
      → com_of (exp_at ns) low_com x (word ns i 1) (word ns i 2) (word ns i 3) ≡ com_of (exp_at ns) (com_at ns) x (word ns i 1) (word ns i 2) (word ns i 3)
  com_by unknown r = refl
  com_by a_value r = refl
  com_by an_ident r = refl
  com_by an_element r = refl
  com_by (a_binary op) r = refl
  com_by a_not r = refl
  com_by a_skip r = refl
  com_by an_assign r = refl
  com_by an_assign_at r = refl
  com_by a_sequence r = ap₂ sequence (under_com _ r.0.0) (under_com _ r.1.0)
  com_by an_if r = ap₂ (choose (exp_at ns (word ns i 1))) (under_com _ r.1.0) (under_com _ r.2.0)
  com_by a_while r = ap (while (exp_at ns (word ns i 1))) (under_com _ r.1.0)

  module _ (all : Rows ds ns) (there : i * 4 + 3 < length ns) where
    pub exp_read : exp_at ns i ≡ exp_of (exp_at ns) (kind_at ns i) (word ns i 1) (word ns i 2)
    unfolding exp_at entry
    exp_read = exp_by (kind_at ns i) (all.ok i there)

    pub com_read : com_at ns i ≡ com_of (exp_at ns) (com_at ns) (kind_at ns i) (word ns i 1) (word ns i 2) (word ns i 3)
    unfolding com_at entry
    com_read = com_by (kind_at ns i) (all.ok i there)

    word_in_order : (k : ℕ) (c : Class) → class_at ns i k ≡ c → (c ≡ none → ⊥) → InOrder ds ns i c (word ns i k)
    word_in_order zero c e n = absurd (n (sym e))
    word_in_order (suc zero) c e n = subst (λ (x : Class). InOrder ds ns i x (word ns i 1)) e (all.ok i there).0
    word_in_order (suc (suc zero)) c e n = subst (λ (x : Class). InOrder ds ns i x (word ns i 2)) e (all.ok i there).1
    word_in_order (suc (suc (suc zero))) c e n = subst (λ (x : Class). InOrder ds ns i x (word ns i 3)) e (all.ok i there).2
    word_in_order (suc (suc (suc (suc k)))) c e n = absurd (n (sym e))

    -- word k names the row of an expression below, or of a command
    pub exp_below : (k : ℕ) → class_at ns i k ≡ expression → (word ns i k < i) × ExpRow ns (word ns i k)
    exp_below k e =
        let o = word_in_order k expression e (λ q. cc) in
        let lt = o.0 in
        (lt, record { there = omega arith; sort = o.1 })

    pub com_below : (k : ℕ) → class_at ns i k ≡ command → (word ns i k < i) × ComRow ns (word ns i k)
    com_below k e =
        let o = word_in_order k command e (λ q. cc) in
        let lt = o.0 in
        (lt, record { there = omega arith; sort = o.1 })

-- what fits a pool fits every pool with as many registers, whichever they are
module _ (ρ : ℕ → Binding) (ns : List ℕ) (m n : ℕ) (same : m ≡ n) where
  pub fits_as_many : {k : Code} {F G : List ℕ} → Fit ρ (exp_at ns n) k F → length F ≤ length G → Fit ρ (exp_at ns m) k G
  fits_as_many {k} {G = G} f h = subst (λ (j : ℕ). Fit ρ (exp_at ns j) k G) (sym same) (record { need = omega (arith, f.need); room = f.room })
