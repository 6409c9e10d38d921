-- A checked table's code has at most four instructions a row.
-- Assumes nothing.
use mathlib.Core.Path.{◌≡◌, refl, sym, ap, ◌∙◌}
use mathlib.Core.Bool.{Bool, true, false, cond}
use mathlib.Core.List.{List}
use Prim.Native.Nat.{ℕ, ◌+◌, ◌-◌, ◌*◌, ◌≤◌, ◌<◌}
use native.Mathlib.Omega.{arith}
use lib.ListN.{length}
use Rattle.refusal.specs.Refusal.{Passes}
use Rattle.rule.specs.Tree.{Op, plus, minus, times, less, equal, both, either, Binding, constant, variable, array}
use Rattle.rule.specs.Kind.{Kind, unknown, a_value, an_ident, an_element, a_binary, a_not, a_skip, an_assign, an_assign_at, a_sequence, an_if, a_while, words_of, first, second, third, is_expression, is_command}
use Rattle.rule.specs.Table.{node_rows, word, kind_at, exp_of, com_of, exp_at, com_at}
use Rattle.rule.specs.Check.{rows, used_once}
use Rattle.rule.proofs.Count.{word_sum, row_sum}
use Rattle.rule.proofs.Clean.{RowInOrder, program_bound}
use Rattle.compiler.specs.Compile.{size_named, size_op, size_exp, size_com}
use Rattle.compiler.specs.Inside.{Rows}
use Rattle.compiler.proofs.Rows.{exp_read, com_read}

named_small : (x : Binding) → size_named x ≤ 2
named_small (constant v) = omega arith
named_small (variable a) = omega arith
named_small (array a s) = omega arith

operator_small : (o : Op) → size_op o ≤ 4
operator_small plus = omega arith
operator_small minus = omega arith
operator_small times = omega arith
operator_small less = omega arith
operator_small equal = omega arith
operator_small both = omega arith
operator_small either = omega arith

no_expression : (x : Kind) → is_command x ≡ true → is_expression x ≡ false
no_expression unknown e = refl
no_expression a_value e = sym e
no_expression an_ident e = sym e
no_expression an_element e = sym e
no_expression (a_binary op) e = sym e
no_expression a_not e = sym e
no_expression a_skip e = refl
no_expression an_assign e = refl
no_expression an_assign_at e = refl
no_expression a_sequence e = refl
no_expression an_if e = refl
no_expression a_while e = refl

module _ (ρ : ℕ → Binding) (ns : List ℕ) where
  -- the size of a row's tree, by its sort
  row_size : ℕ → ℕ
  row_size i = cond (is_expression (kind_at ns i)) (size_exp ρ (exp_at ns i)) (size_com ρ (com_at ns i))

  exp_size : (i : ℕ) → is_expression (kind_at ns i) ≡ true → row_size i ≡ size_exp ρ (exp_at ns i)
  unfolding row_size
  exp_size i e = ap (λ (b : Bool). cond b (size_exp ρ (exp_at ns i)) (size_com ρ (com_at ns i))) e

  com_size : (i : ℕ) → is_command (kind_at ns i) ≡ true → row_size i ≡ size_com ρ (com_at ns i)
  unfolding row_size
  com_size i e = ap (λ (b : Bool). cond b (size_exp ρ (exp_at ns i)) (size_com ρ (com_at ns i))) (no_expression (kind_at ns i) e)

  module _ (ds : List ℕ) (all : Rows ds ns) (i : ℕ) (there : i * 4 + 3 < length ns) where
    abbrev Small : Kind → Type 0
    Small x =
        row_size i
        ≤ 4
        + (word_sum row_size (first (words_of x)) (word ns i 1)
        + (word_sum row_size (second (words_of x)) (word ns i 2) + word_sum row_size (third (words_of x)) (word ns i 3)))

    -- an expression's row and a command's, of the kind x: their own sizes, by what their words name
    own : (x : Kind) → kind_at ns i ≡ x → is_expression x ≡ true → row_size i ≡ size_exp ρ (exp_of (exp_at ns) x (word ns i 1) (word ns i 2))
    own x e s =
        exp_size i (ap is_expression e ∙ s)
        ∙ ap (size_exp ρ) (exp_read ds ns i all there ∙ ap (λ (y : Kind). exp_of (exp_at ns) y (word ns i 1) (word ns i 2)) e)

    own_com : (x : Kind) → kind_at ns i ≡ x → is_command x ≡ true
        → row_size i ≡ size_com ρ (com_of (exp_at ns) (com_at ns) x (word ns i 1) (word ns i 2) (word ns i 3))
    own_com x e s =
        com_size i (ap is_command e ∙ s)
        ∙ ap (size_com ρ) (com_read ds ns i all there ∙ ap (λ (y : Kind). com_of (exp_at ns) (com_at ns) y (word ns i 1) (word ns i 2) (word ns i 3)) e)

    step : (x : Kind) → kind_at ns i ≡ x → RowInOrder ds ns i (words_of x) → Small x
    unfolding size_exp size_com
    step unknown e r = absurd r.0
    step a_value e r = let h = own a_value e refl in omega arith
    step an_ident e r = let h = own an_ident e refl in let n = named_small (ρ (word ns i 1)) in omega arith
    step an_element e r =
        let h = own an_element e refl in
        let a = exp_size (word ns i 2) r.1.1 in
        omega arith
    step (a_binary op) e r =
        let h = own (a_binary op) e refl in
        let a = exp_size (word ns i 1) r.0.1 in
        let b = exp_size (word ns i 2) r.1.1 in
        let n = operator_small op in
        omega arith
    step a_not e r =
        let h = own a_not e refl in
        let a = exp_size (word ns i 1) r.0.1 in
        omega arith
    step a_skip e r = let h = own_com a_skip e refl in omega arith
    step an_assign e r =
        let h = own_com an_assign e refl in
        let a = exp_size (word ns i 2) r.1.1 in
        omega arith
    step an_assign_at e r =
        let h = own_com an_assign_at e refl in
        let a = exp_size (word ns i 2) r.1.1 in
        let b = exp_size (word ns i 3) r.2.1 in
        omega arith
    step a_sequence e r =
        let h = own_com a_sequence e refl in
        let a = com_size (word ns i 1) r.0.1 in
        let b = com_size (word ns i 2) r.1.1 in
        omega arith
    step an_if e r =
        let h = own_com an_if e refl in
        let a = exp_size (word ns i 1) r.0.1 in
        let b = com_size (word ns i 2) r.1.1 in
        let d = com_size (word ns i 3) r.2.1 in
        omega arith
    step a_while e r =
        let h = own_com a_while e refl in
        let a = exp_size (word ns i 1) r.0.1 in
        let b = com_size (word ns i 2) r.1.1 in
        omega arith

    row_small : row_size i ≤ 4 + row_sum row_size ns i
    row_small = step (kind_at ns i) refl (all.ok i there)

-- the program's size, in instructions
pub program_small : (ρ : ℕ → Binding) (ds ns : List ℕ) → length ns ≡ node_rows ns * 4 → 0 < node_rows ns → Rows ds ns → rows ds ns ≡ Passes
    → used_once ns ≡ Passes → is_command (kind_at ns (node_rows ns - 1)) ≡ true → size_com ρ (com_at ns (node_rows ns - 1)) ≤ 4 * node_rows ns
program_small ρ ds ns len some all p q c =
    let b = program_bound ds ns (row_size ρ ns) 4 p q some (λ i lt. row_small ρ ns ds all i (omega arith)) in
    let e = com_size ρ ns (node_rows ns - 1) c in
    omega arith
