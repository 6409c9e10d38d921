-- `lay_rows`: at each turn the rows below are in order, their first cells are in place, and the cells so far are their sum.
use mathlib.Core.List.{List}
use mathlib.Core.Path.{◌≡◌, refl, sym, ap, ap₂, ◌∙◌}
use Prim.Native.Nat.{ℕ, ◌+◌}
use native.Mathlib.Omega.{arith}
use lib.ListN.{set}
use Rattle.std.proofs.lemmas.Bool.{false_from_ne_true}
use Rattle.rule.specs.Table.{declaration_rows, sort, given, first_cell}
use Rattle.rule.specs.Check.{is_declaration, declaration_no, refused, declarations as declarations_of, bases as first_cells}
use Rattle.rule.specs.Answer.{passed}
use Rattle.rule.specs.Layout.{laid_as, laid_said, laid_out}
use Rattle.refusal.proofs.Scans.{scan_start, scan_end}
use Rattle.rule.proofs.Cells.{declaration_cells, first_cell_next, bases_next, no_declaration, too_many_cells, declaration_in_order}
use Rattle.rule.proofs.layout.lay_rows.Goals as goal

pub loop-row-init : goal.loop-row-init
unfolding first_cell first_cells declarations_of
loop-row-init c =
    let ds = c.args.declarations.now in
    (refl, refl, omega arith, scan_start (declaration_no ds) (λ x. refused (declaration_no ds x)) (declaration_rows ds))

pub returns-in_default : goal.returns-in_default
unfolding laid_said
returns-in_default c =
    let turn = c.loop-row in
    let ds = c.args.declarations.now in
    let i = turn.row in
    ap (laid_out ds) (sym (turn.invariant.3 ∙ no_declaration ds i c.loop-row-test.true (false_from_ne_true (is_declaration (sort ds i) (given ds i)) c.in_default.ensures)))

pub overflow_add-cells : goal.overflow_add-cells
overflow_add-cells c =
    let ds = c.args.declarations.now in
    let i = c.loop-row.row in
    let own = c.in-Some.ensures in
    omega (arith, declaration_cells (sort ds i) (given ds i) own.0, own.1)

pub returns-then-cells-gt-CELL_LIMIT : goal.returns-then-cells-gt-CELL_LIMIT
unfolding laid_said
returns-then-cells-gt-CELL_LIMIT c =
    let turn = c.loop-row in
    let ds = c.args.declarations.now in
    let i = turn.row in
    let own = c.in-Some.ensures in
    ap (laid_out ds) (sym (turn.invariant.3 ∙ too_many_cells ds i c.loop-row-test.true own.0 (omega (arith, own.1, first_cell_next ds i))))

pub loop-row-preserved : goal.loop-row-preserved
loop-row-preserved c =
    let turn = c.loop-row in
    let ds = c.args.declarations.now in
    let i = turn.row in
    let own = c.in-Some.ensures in
    let n : first_cell ds (i + 1) ≡ turn.cells + c.in-Some.own = omega (arith, own.1, first_cell_next ds i) in
    (ap₂ (λ (l : List ℕ) (v : ℕ). set l i v) turn.invariant.0 turn.invariant.1 ∙ sym (bases_next ds i), sym n, c.if-cells-gt-CELL_LIMIT.false, turn.invariant.3 ∙ declaration_in_order ds i c.loop-row-test.true own.0 (omega arith))

pub returns : goal.returns
unfolding laid_said
returns c =
    let turn = c.loop-row in
    let ds = c.args.declarations.now in
    let e : turn.row ≡ declaration_rows ds = omega arith in
    ap₂ (laid_as passed) (turn.invariant.1 ∙ ap (first_cell ds) e) (turn.invariant.0 ∙ ap (first_cells ds) e) ∙ ap (laid_out ds) (sym (turn.invariant.3 ∙ scan_end (declaration_no ds) (λ x. refused (declaration_no ds x)) (declaration_rows ds) turn.row c.loop-row-test.false))
