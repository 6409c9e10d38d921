-- `scan_rows`: at each turn the rows below are in order and their children marked; at the end the marks tell refusal 10.
use mathlib.Core.Path.{◌≡◌}
use Rattle.rule.specs.Table.{node_rows}
use Rattle.rule.specs.Check.{row_no, rows as rows_of}
use Rattle.rule.specs.Marks.{marked}
use Rattle.rule.proofs.Scans.{numbered_from}
use Rattle.rule.proofs.scan_rows.Given as goal

abbrev pub invariant-loop-row : goal.invariant-loop-row
invariant-loop-row l =
    (l.marks ≡ marked l.nodes l.row) × (rows_of l.declarations l.nodes ≡ numbered_from (row_no l.declarations l.nodes) (node_rows l.nodes) l.row)
