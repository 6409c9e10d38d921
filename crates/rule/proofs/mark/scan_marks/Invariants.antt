-- `scan_marks`: at each turn the rows below are marked once.
use mathlib.Core.Path.{◌≡◌}
use Prim.Native.Nat.{◌-◌}
use Rattle.rule.specs.Marks.{not_once, once_marked}
use Rattle.refusal.proofs.Scans.{scan_from}
use Rattle.rule.proofs.mark.scan_marks.Given as goal

abbrev pub invariant-loop-row : goal.invariant-loop-row
invariant-loop-row l = once_marked l.marks l.rows ≡ scan_from (λ j. 10) (not_once l.marks) (l.rows - 1) l.row
