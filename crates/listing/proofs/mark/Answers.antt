-- `mark`: at each turn the labels that the instructions below name are marked.
use mathlib.Core.Path.{sym, ◌∙◌}
use native.Mathlib.Omega.{arith}
use Rattle.std.specs.Prelude.{Some, None}
use Rattle.listing.proofs.Marks.{label_below, mark_next}
use Rattle.listing.proofs.mark.Goals.{in-Some, in_default}
use Rattle.listing.proofs.mark.Goals as goal

pub bounds-marks-label : goal.bounds-marks-label
bounds-marks-label c = label_below c.args.code.now.sound _ (omega arith) _ c.instruction.ensures _ (sym c.in-Some.ensures)

pub instructions-preserved : goal.instructions-preserved
instructions-preserved c =
    let next = mark_next c.args.code.now.sound c.instructions.place (omega arith) _ c.instruction.ensures in
    elim c.match-named_by.branch [
      | in-Some w ↦ rw w.marks-is (next (Some _) w.in-Some.ensures _ c.instructions.invariant)
      | in_default w ↦ rw w.marks-is (next None (sym w.in_default.is ∙ c.named_by.ensures) _ c.instructions.invariant)
    ]
