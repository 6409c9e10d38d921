-- Cells and first cells: how they add up row by row, and what bounds them.
-- Assumes nothing.
use mathlib.Core.Path.{◌≡◌, refl, sym, ap, ◌∙◌}
use mathlib.Core.Logic.{⊎_elim}
use mathlib.Core.List.{List}
use mathlib.Core.Bool.{Bool, true, false, cond, ◌&&◌}
use Prim.Native.Nat.{ℕ, zero, suc, ◌+◌, ◌-◌, ◌%◌, ◌≤◌, ◌<◌}
use native.Mathlib.Nat.{eq-or-lt_of_le, le_of_suc-le-suc, not-suc-le-zero}
use native.Mathlib.Omega.{arith}
use native.Mathlib.Numerals.{add-one}
use lib.Dec.{eqb, ltb, leb}
use lib.ListN.{length, get_or, set, length-set, length-replicate, get_or-eq_default}
use lib.Seq.{get_or-set_same, get_or-set_other}
use borrow.Author.Tests.{eqb-true, leb-true, leb-false, ltb-false, lt-leb, le-leb}
use Rattle.refusal.specs.Refusal.{Passes, Refuses}
use Rattle.rule.specs.Table.{declaration_rows, sort, given, cells_of, first_cell}
use Rattle.rule.specs.Check.{is_declaration, declaration_no, refused, declarations, declaration_words, declared, bases}
use Rattle.rule.proofs.Verdicts.{both_hold, both_pass, declaration_words_pass}
use Rattle.refusal.proofs.Scans.{scan_passes}
use Rattle.rule.proofs.Scans.{numbered_from, numbered_hit, numbered_miss}

-- a declaration has at most 65,536 cells
pub declaration_cells : (k v : ℕ) → is_declaration k v ≡ true → cells_of k v ≤ 65536
declaration_cells k v h = go (eqb k 1) (eqb k 2) (eqb k 3) refl refl h
  where
    go : (a b c : Bool) → eqb k 1 ≡ a → eqb k 3 ≡ c → cond a true (cond b (eqb v 0) (cond c (ltb 0 v && leb v 65536) false)) ≡ true → cond b 1 (cond c v 0) ≤ 65536
    go a true c p q e = omega arith
    go true false true p q e = let x = eqb-true k 1 p in let y = eqb-true k 3 q in absurd (omega arith)
    go false false true p q e = leb-true v 65536 (both_hold (ltb 0 v) (leb v 65536) e).1
    go a false false p q e = omega arith

module _ (ds : List ℕ) where
  pub first_cell_next : (x : ℕ) → first_cell ds (x + 1) ≡ first_cell ds x + cells_of (sort ds x) (given ds x)
  unfolding first_cell
  first_cell_next x = ap (first_cell ds) (add-one x)

  -- refusals 4 and 5 of one row, and a row in order, where the rows below it are
  module _ (x : ℕ) (h : x < declaration_rows ds) where
    numbered : (a : Bool) → is_declaration (sort ds x) (given ds x) ≡ a → declaration_no ds x ≡ cond a (cond (leb (first_cell ds (suc x)) 65536) 10 5) 4
    numbered a e = rw e

    pub no_declaration : is_declaration (sort ds x) (given ds x) ≡ false → numbered_from (declaration_no ds) (declaration_rows ds) x ≡ Refuses 4 x
    no_declaration e = numbered_hit (declaration_no ds) (declaration_rows ds) x 4 h (sym (numbered false e)) (omega arith)

    pub too_many_cells : is_declaration (sort ds x) (given ds x) ≡ true → 65536 < first_cell ds (x + 1) → numbered_from (declaration_no ds) (declaration_rows ds) x ≡ Refuses 5 x
    too_many_cells e l =
        numbered_hit (declaration_no ds) (declaration_rows ds) x 5 h
        (sym (numbered true e ∙ ap (λ (t : Bool). cond t 10 5) (lt-leb (first_cell ds (suc x)) 65536 (rw (add-one x) at l)))) (omega arith)

    pub declaration_in_order : is_declaration (sort ds x) (given ds x) ≡ true → first_cell ds (x + 1) ≤ 65536 → numbered_from (declaration_no ds) (declaration_rows ds) x ≡ numbered_from (declaration_no ds) (declaration_rows ds) (x + 1)
    declaration_in_order e l =
        numbered_miss (declaration_no ds) (declaration_rows ds) x 10 h
        (sym (numbered true e ∙ ap (λ (t : Bool). cond t 10 5) (le-leb (first_cell ds (suc x)) 65536 (rw (add-one x) at l)))) (omega arith)

  row_fits : (x : ℕ) → 10 ≤ declaration_no ds x → first_cell ds (suc x) ≤ 65536
  row_fits x h = go (is_declaration (sort ds x) (given ds x)) (leb (first_cell ds (suc x)) 65536) refl h
    where
      go : (a b : Bool) → leb (first_cell ds (suc x)) 65536 ≡ b → 10 ≤ cond a (cond b 10 5) 4 → first_cell ds (suc x) ≤ 65536
      go a true e k = leb-true (first_cell ds (suc x)) 65536 e
      go true false e k = absurd (omega arith)
      go false false e k = absurd (omega arith)

  pub cells_fit : declarations ds ≡ Passes → (x : ℕ) → x ≤ declaration_rows ds → first_cell ds x ≤ 65536
  unfolding declarations first_cell
  cells_fit e zero h = omega arith
  cells_fit e (suc x) h =
      row_fits x (ltb-false (declaration_no ds x) 10 (scan_passes (declaration_no ds) (λ i. refused (declaration_no ds i)) (declaration_rows ds) e x h))

  -- rows beyond the table have no cells
  none_beyond : (k : ℕ) → length ds % 2 ≡ 0 → first_cell ds (declaration_rows ds + k) ≡ first_cell ds (declaration_rows ds)
  unfolding first_cell
  none_beyond zero h = let e : declaration_rows ds + 0 ≡ declaration_rows ds = omega arith in ap (first_cell ds) e
  none_beyond (suc k) h =
      let e : declaration_rows ds + suc k ≡ suc (declaration_rows ds + k) = omega arith in
      let z : sort ds (declaration_rows ds + k) ≡ 0 = get_or-eq_default ds 0 (omega arith) in
      ap (first_cell ds) e
      ∙ ap (λ (s : ℕ). first_cell ds (declaration_rows ds + k) + cells_of s (given ds (declaration_rows ds + k))) z
      ∙ (let i = none_beyond k h in omega arith)

  pub cells_fit_always : declared ds ≡ Passes → (x : ℕ) → first_cell ds x ≤ 65536
  unfolding declared
  cells_fit_always e x = go (leb x (declaration_rows ds)) refl
    where
      go : (b : Bool) → leb x (declaration_rows ds) ≡ b → first_cell ds x ≤ 65536
      go true q = cells_fit (both_pass (declaration_words (length ds)) (declarations ds) e).1 x (leb-true x (declaration_rows ds) q)
      go false q =
          let l = leb-false x (declaration_rows ds) q in
          let s : x ≡ declaration_rows ds + (x - declaration_rows ds) = omega arith in
          let p = both_pass (declaration_words (length ds)) (declarations ds) e in
          let z = ap (first_cell ds) s ∙ none_beyond (x - declaration_rows ds) (declaration_words_pass (length ds) p.0).0 in
          let f = cells_fit p.1 (declaration_rows ds) (omega arith) in
          omega arith

  -- the list of first cells
  pub bases_next : (x : ℕ) → bases ds (x + 1) ≡ set (bases ds x) x (first_cell ds x)
  unfolding bases
  bases_next x = ap (bases ds) (add-one x)

  pub length_bases : (n : ℕ) → length (bases ds n) ≡ 256
  unfolding bases
  length_bases zero = length-replicate {A = ℕ} 256 0
  length_bases (suc n) = length-set (bases ds n) n (first_cell ds n) ∙ length_bases n

  pub base_at : (n x : ℕ) → x < n → n ≤ 256 → get_or (bases ds n) x 0 ≡ first_cell ds x
  unfolding bases
  base_at zero x h k = absurd (not-suc-le-zero h)
  base_at (suc n) x h k =
      ⊎_elim
      (λ (e : x ≡ n).
      ap (λ (y : ℕ). get_or (set (bases ds n) n (first_cell ds n)) y 0) e
      ∙ get_or-set_same (bases ds n) n (first_cell ds n) 0 (let l = length_bases n in omega arith)
      ∙ ap (first_cell ds) (sym e))
      (λ (lt : x < n). get_or-set_other (bases ds n) n x (first_cell ds n) 0 (λ e. omega arith) ∙ base_at n x lt (omega arith))
      (eq-or-lt_of_le (le_of_suc-le-suc h))
