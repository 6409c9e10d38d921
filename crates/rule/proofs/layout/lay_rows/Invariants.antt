-- `lay_rows`: at each turn the rows below are in order, their first cells are in place, and the cells so far are their sum.
use mathlib.Core.Path.{◌≡◌}
use Prim.Native.Nat.{◌≤◌}
use Rattle.rule.specs.Table.{declaration_rows, first_cell}
use Rattle.rule.specs.Check.{declaration_no, declarations as declarations_of, bases as first_cells}
use Rattle.rule.proofs.Scans.{numbered_from}
use Rattle.rule.proofs.layout.lay_rows.Given as goal

abbrev pub invariant-loop-row : goal.invariant-loop-row
invariant-loop-row l =
    (l.bases ≡ first_cells l.declarations l.row) × (l.cells ≡ first_cell l.declarations l.row) × (l.cells ≤ 65536)
    × (declarations_of l.declarations ≡ numbered_from (declaration_no l.declarations) (declaration_rows l.declarations) l.row)
