-- `check`: the checks in their order, and the cells of a layout that passes.
use mathlib.Core.Path.{◌≡◌, refl, sym, ap, ◌∙◌}
use lib.ListN.{length}
use Rattle.std.proofs.lemmas.Result.{err_from_is_err_and}
use Rattle.refusal.specs.Refusal.{Passes, ◌and_then◌}
use Rattle.rule.specs.Check.{node_words, declaration_words, declared}
use Rattle.rule.specs.Answer.{accepted}
use Rattle.rule.proofs.Answers.{words_verdict, rows_verdict, checked_from, layout_verdict, layout_cells}
use Rattle.rule.proofs.check.Goals as goal
use Rattle.rule.proofs.check.Goals.{In_ok-check_words, In_ok-layout}

words_pass : (c : In_ok-check_words) → Passes ≡ node_words (length c.args.nodes.now) and_then declaration_words (length c.args.declarations.now)
words_pass c = words_verdict _ _ _ c.in_ok-check_words.ensures

declarations_pass : (c : In_ok-layout) → Passes ≡ declared c.args.declarations.now
declarations_pass c = layout_verdict c.args.declarations.now _ c.in_ok-layout.ensures

pub returns-in_err-check_words : goal.returns-in_err-check_words
returns-in_err-check_words c =
    let left = err_from_is_err_and c.from_residual.result c.from_residual.ensures.1 in
    rw (left.1, left.2)
    (checked_from c.args.declarations.now c.args.nodes.now (words_verdict _ _ _ c.in_err-check_words.ensures) refl refl)

pub returns-in_err-layout : goal.returns-in_err-layout
returns-in_err-layout c =
    let ds = c.args.declarations.now in
    let left = err_from_is_err_and c.from_residual-in_err-layout.result c.from_residual-in_err-layout.ensures.1 in
    rw (left.1, left.2)
    (checked_from ds c.args.nodes.now (words_pass (goal.at.returns-in_err-layout c).In_ok-check_words) (layout_verdict ds _ c.in_err-layout.ensures) refl)

pub returns-in_err-check_rows : goal.returns-in_err-check_rows
returns-in_err-check_rows c =
    let ds = c.args.declarations.now in
    let ns = c.args.nodes.now in
    let at = goal.at.returns-in_err-check_rows c in
    let left = err_from_is_err_and c.from_residual-in_err-check_rows.result c.from_residual-in_err-check_rows.ensures.1 in
    rw (left.1, left.2)
    (checked_from ds ns (words_pass at.In_ok-check_words) (declarations_pass at.In_ok-layout) (rows_verdict ds ns _ c.in_err-check_rows.ensures))

pub returns : goal.returns
returns c =
    let ds = c.args.declarations.now in
    let ns = c.args.nodes.now in
    let at = goal.at.returns c in
    let passed = declarations_pass at.In_ok-layout in
    ap accepted (layout_cells ds _ c.in_ok-layout.ensures (sym passed))
    ∙ checked_from ds ns (words_pass at.In_ok-check_words) passed (rows_verdict ds ns _ c.in_ok-check_rows.ensures)
