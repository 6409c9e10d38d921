-- What is known of the rows of a table that is not refused.
-- Assumes nothing.
use mathlib.Core.Path.{◌≡◌, refl, sym, ap, ◌∙◌, subst}
use mathlib.Core.List.{List}
use mathlib.Core.Bool.{Bool, true, false, cond, true≢false}
use Prim.Native.Nat.{ℕ, suc, ◌+◌, ◌-◌, ◌*◌, ◌≤◌, ◌<◌}
use native.Mathlib.Omega.{arith}
use lib.Dec.{eqb, ltb, leb}
use borrow.Author.Tests.{ltb-true, ltb-false, leb-true, eqb-true, eq-eqb, not-false}
use Rattle.refusal.specs.Refusal.{Passes}
use Rattle.rule.specs.Kind.{Class, Words, none, unused, number, scalar, variable_name, array_name, expression, command, words_of, first, second, third, is_expression, is_command}
use Rattle.rule.specs.Table.{declaration_rows, sort, node_rows, word, kind_at}
use Rattle.rule.specs.Check.{among, child_no, name_no, word_no, last_no, row_no, refused, rows, is_child, uses, misused, used_once}
use Rattle.rule.proofs.Verdicts.{both_hold}
use Rattle.refusal.proofs.Scans.{scan_passes}
use Rattle.rule.proofs.Count.{Linked, linked_more, row_sum, once_bound}

pub rows_in_order : (ds ns : List ℕ) → rows ds ns ≡ Passes → (i : ℕ) → i < node_rows ns → 10 ≤ row_no ds ns i
unfolding rows
rows_in_order ds ns e i h =
    ltb-false (row_no ds ns i) 10 (scan_passes (row_no ds ns) (λ i. refused (row_no ds ns i)) (node_rows ns) e i h)

pub rows_used_once : (ns : List ℕ) → used_once ns ≡ Passes → (j : ℕ) → j < node_rows ns - 1 → uses ns (node_rows ns) j ≡ 1
unfolding used_once
rows_used_once ns e j h =
    eqb-true (uses ns (node_rows ns) j) 1
    (not-false (eqb (uses ns (node_rows ns) j) 1) (scan_passes (λ j. 10) (misused ns) (node_rows ns - 1) e j h))

-- what a word in order is, by its class
abbrev pub InOrder : List ℕ → List ℕ → ℕ → Class → ℕ → Type 0
InOrder ds ns i none w = ⊥
InOrder ds ns i unused w = w ≡ 0
InOrder ds ns i number w = Unit {0}
InOrder ds ns i scalar w = (w < declaration_rows ds) × (1 ≤ sort ds w) × (sort ds w ≤ 2)
InOrder ds ns i variable_name w = (w < declaration_rows ds) × (sort ds w ≡ 2)
InOrder ds ns i array_name w = (w < declaration_rows ds) × (sort ds w ≡ 3)
InOrder ds ns i expression w = (w < i) × (is_expression (kind_at ns w) ≡ true)
InOrder ds ns i command w = (w < i) × (is_command (kind_at ns w) ≡ true)

two_tests : (a b : Bool) (p q : ℕ) → p < 10 → q < 10 → 10 ≤ cond a (cond b 10 p) q → (a ≡ true) × (b ≡ true)
two_tests true true p q hp hq h = (refl, refl)
two_tests true false p q hp hq h = absurd (omega arith)
two_tests false b p q hp hq h = absurd (omega arith)

child_in_order : (i w : ℕ) (b : Bool) → 10 ≤ child_no i b w → (w < i) × (b ≡ true)
child_in_order i w b h =
    let t = two_tests (ltb w i) b 7 6 (omega arith) (omega arith) h in
    (ltb-true w i t.0, t.1)

name_in_order : (ds : List ℕ) (low high w : ℕ) → 10 ≤ name_no ds (among low high (sort ds w)) w → (w < declaration_rows ds) × (low ≤ sort ds w) × (sort ds w ≤ high)
name_in_order ds low high w h =
    let t = two_tests (ltb w (declaration_rows ds)) (among low high (sort ds w)) 9 8 (omega arith) (omega arith) h in
    let s = both_hold (leb low (sort ds w)) (leb (sort ds w) high) t.1 in
    (ltb-true w (declaration_rows ds) t.0, leb-true low (sort ds w) s.0, leb-true (sort ds w) high s.1)

zero_in_order : (w : ℕ) → 10 ≤ cond (eqb w 0) 10 6 → w ≡ 0
zero_in_order w h = go (eqb w 0) refl h
  where
    go : (b : Bool) → eqb w 0 ≡ b → 10 ≤ cond b 10 6 → w ≡ 0
    go true e k = eqb-true w 0 e
    go false e k = absurd (omega arith)

pub word_in_order : (ds ns : List ℕ) (i : ℕ) (c : Class) (w : ℕ) → 10 ≤ word_no ds ns i c w → InOrder ds ns i c w
word_in_order ds ns i none w h = omega arith
word_in_order ds ns i unused w h = zero_in_order w h
word_in_order ds ns i number w h = tt
word_in_order ds ns i scalar w h = name_in_order ds 1 2 w h
word_in_order ds ns i variable_name w h = let n = name_in_order ds 2 2 w h in (n.0, omega arith)
word_in_order ds ns i array_name w h = let n = name_in_order ds 3 3 w h in (n.0, omega arith)
word_in_order ds ns i expression w h = child_in_order i w (is_expression (kind_at ns w)) h
word_in_order ds ns i command w h = child_in_order i w (is_command (kind_at ns w)) h

-- the three words of a row in order
abbrev pub RowInOrder : List ℕ → List ℕ → ℕ → Words → Type 0
RowInOrder ds ns i k =
    InOrder ds ns i (first k) (word ns i 1) × InOrder ds ns i (second k) (word ns i 2) × InOrder ds ns i (third k) (word ns i 3)

pub row_in_order : (ds ns : List ℕ) (i : ℕ) → 10 ≤ row_no ds ns i → RowInOrder ds ns i (words_of (kind_at ns i))
unfolding row_no
row_in_order ds ns i h =
    let k = words_of (kind_at ns i) in (
      word_in_order ds ns i (first k) (word ns i 1) (omega arith),
      word_in_order ds ns i (second k) (word ns i 2) (omega arith),
      word_in_order ds ns i (third k) (word ns i 3) (omega arith),
    )

pub last_in_order : (ds ns : List ℕ) → rows ds ns ≡ Passes → 0 < node_rows ns → is_command (kind_at ns (node_rows ns - 1)) ≡ true
unfolding row_no
last_in_order ds ns e h =
    let r = rows_in_order ds ns e (node_rows ns - 1) (omega arith) in
    go (is_command (kind_at ns (node_rows ns - 1))) (rw (eq-eqb (suc (node_rows ns - 1)) (node_rows ns) (omega arith)) at (least r))
  where
    least : 10 ≤ row_no ds ns (node_rows ns - 1) → 10 ≤ last_no ns (node_rows ns - 1)
    least r = omega arith

    go : (b : Bool) → 10 ≤ cond b 10 7 → b ≡ true
    go true k = refl
    go false k = absurd (omega arith)

-- the children of a row in order are below it
child_below : (ds ns : List ℕ) (i : ℕ) (c : Class) (w : ℕ) → InOrder ds ns i c w → is_child c ≡ true → w < i
child_below ds ns i none w h e = absurd h
child_below ds ns i unused w h e = absurd (true≢false (sym e))
child_below ds ns i number w h e = absurd (true≢false (sym e))
child_below ds ns i scalar w h e = absurd (true≢false (sym e))
child_below ds ns i variable_name w h e = absurd (true≢false (sym e))
child_below ds ns i array_name w h e = absurd (true≢false (sym e))
child_below ds ns i expression w h e = h.0
child_below ds ns i command w h e = h.0

pub row_linked : (ds ns : List ℕ) (i : ℕ) → 10 ≤ row_no ds ns i → Linked ns i i
row_linked ds ns i h =
    let k = words_of (kind_at ns i) in
    let r = row_in_order ds ns i h in
    record {
      left = child_below ds ns i (first k) (word ns i 1) r.0;
      middle = child_below ds ns i (second k) (word ns i 2) r.1;
      right = child_below ds ns i (third k) (word ns i 3) r.2;
    }

-- what adds at most K a row is at most K times the rows at the whole program
pub program_bound : (ds ns : List ℕ) (f : ℕ → ℕ) (K : ℕ) → rows ds ns ≡ Passes → used_once ns ≡ Passes → 0 < node_rows ns → ((i : ℕ) → i < node_rows ns → f i ≤ K + row_sum f ns i) → f (node_rows ns - 1) ≤ K * node_rows ns
program_bound ds ns f K p q h step =
    let e : suc (node_rows ns - 1) ≡ node_rows ns = omega arith in
    subst (λ (m : ℕ). f (node_rows ns - 1) ≤ K * m) e
    (once_bound f ns K (node_rows ns - 1) (λ i lt. step i (omega arith))
    (λ i lt. linked_more ns i i (node_rows ns - 1) (omega arith) (row_linked ds ns i (rows_in_order ds ns p i (omega arith))))
    (λ j lt. ap (λ (m : ℕ). uses ns m j) e ∙ rows_used_once ns q j lt))
