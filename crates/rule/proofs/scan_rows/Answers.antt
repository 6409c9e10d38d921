-- `scan_rows`: at each turn the rows below are in order and their children marked; at the end the marks tell refusal 10.
use mathlib.Core.Path.{◌≡◌, refl, sym, ap, ◌∙◌}
use native.Mathlib.Omega.{arith}
use Rattle.refusal.specs.Refusal.{Verdict, ◌and_then◌}
use mathlib.Core.List.{List}
use Rattle.rule.specs.declared.mark.Mark.{Mark}
use Rattle.rule.specs.Kind.{words_of}
use Rattle.rule.specs.Table.{node_rows, kind_at}
use Rattle.rule.specs.Check.{row_no, refused, rows as rows_of, used_once}
use Rattle.rule.specs.Marks.{mark_words, marked, once_marked}
use Rattle.rule.proofs.Marking.{marked_next, marks_then}
use Rattle.refusal.proofs.Scans.{scan_start, scan_end}
use Rattle.rule.proofs.Scans.{row_in_turn}
use Rattle.std.proofs.lemmas.Result.{err_from_is_err_and}
use Rattle.rule.proofs.scan_rows.Goals as goal

pub loop-row-init : goal.loop-row-init
unfolding marked rows_of
loop-row-init c =
    let handed = c.args in
    (refl, scan_start (row_no handed.declarations.now handed.nodes.now) (λ i. refused (row_no handed.declarations.now handed.nodes.now i)) (node_rows handed.nodes.now))

pub returns-in_err-check : goal.returns-in_err-check
returns-in_err-check c =
    let turn = c.loop-row in
    let handed = c.args in
    let ds = handed.declarations.now in
    let ns = handed.nodes.now in
    let left = err_from_is_err_and c.from_residual.result c.from_residual.ensures.1 in
    rw (left.1, left.2)
    (ap (λ (v : Verdict). v and_then used_once ns)
    (sym (turn.invariant.1 ∙ row_in_turn (row_no ds ns) (node_rows ns) turn.row c.loop-row-test.true c.in_err-check.ensures.refusal)))

pub loop-row-preserved : goal.loop-row-preserved
loop-row-preserved c =
    let turn = c.loop-row in
    let handed = c.args in
    let ds = handed.declarations.now in
    let ns = handed.nodes.now in
    let i = turn.row in
    (c.in_ok-check.ensures.marks ∙ ap (mark_words ns i (words_of (kind_at ns i))) turn.invariant.0 ∙ sym (marked_next ns i), turn.invariant.1 ∙ row_in_turn (row_no ds ns) (node_rows ns) i c.loop-row-test.true c.in_ok-check.ensures.refusal)

pub returns : goal.returns
returns c =
    let turn = c.loop-row in
    let handed = c.args in
    let ds = handed.declarations.now in
    let ns = handed.nodes.now in
    let e : turn.row ≡ node_rows handed.nodes.now = omega arith in
    c.scan_marks.ensures ∙ ap (λ (l : List Mark). once_marked l (node_rows ns)) (turn.invariant.0 ∙ ap (marked ns) e) ∙ marks_then ns ds (omega arith) (turn.invariant.1 ∙ scan_end (row_no ds ns) (λ i. refused (row_no ds ns i)) (node_rows ns) turn.row c.loop-row-test.false)
