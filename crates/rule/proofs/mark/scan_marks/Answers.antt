-- `scan_marks`: at each turn the rows below are marked once.
use mathlib.Core.Bool.{not}
use mathlib.Core.Path.{◌≡◌, refl, sym, ◌∙◌}
use Prim.Native.Nat.{◌-◌}
use denote.Enum.Bare.{sameb}
use lib.ListN.{get_or}
use Rattle.rule.specs.declared.mark.Mark.{Mark}
use Rattle.rule.specs.declared.mark.Mark.TheVariants.{Unmet, Once, Often}
use Rattle.rule.specs.contracts.mark.Mark.{the_type}
use Rattle.rule.specs.Marks.{is_once, not_once, once_marked}
use Rattle.refusal.proofs.Scans.{scan_start, scan_hit, scan_miss, scan_end}
use Rattle.rule.proofs.mark.scan_marks.Goals as goal

-- the code's test is that of the definition
tested : (m : Mark) → not (is_once m) ≡ not (sameb the_type m Once)
tested Unmet = refl
tested Once = refl
tested Often = refl

pub loop-row-init : goal.loop-row-init
unfolding once_marked
loop-row-init c = scan_start (λ j. 10) (not_once c.args.marks.now) (c.args.rows - 1)

pub returns-then-ne : goal.returns-then-ne
returns-then-ne c =
    let turn = c.loop-row in
    let handed = c.args in
    sym (turn.invariant ∙ scan_hit (λ j. 10) (not_once handed.marks.now) (handed.rows - 1) turn.row c.loop-row-test.true (tested (get_or handed.marks.now turn.row Unmet) ∙ sym c.ne.ensures ∙ c.if-ne.true))

pub loop-row-preserved : goal.loop-row-preserved
loop-row-preserved c =
    let turn = c.loop-row in
    let handed = c.args in
    turn.invariant ∙ scan_miss (λ j. 10) (not_once handed.marks.now) (handed.rows - 1) turn.row c.loop-row-test.true (tested (get_or handed.marks.now turn.row Unmet) ∙ sym c.ne.ensures ∙ c.if-ne.false)

pub returns : goal.returns
returns c =
    let turn = c.loop-row in
    let handed = c.args in
    sym (turn.invariant ∙ scan_end (λ j. 10) (not_once handed.marks.now) (handed.rows - 1) turn.row c.loop-row-test.false)
