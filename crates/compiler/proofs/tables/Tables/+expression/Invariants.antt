-- `emit_exp` and `emit_operand`: the row falls, from a row to its operands' rows.
use Prim.Native.Nat.{◌*◌, ◌+◌}
use Rattle.compiler.proofs.tables.Tables.+expression.Given as goal

abbrev pub decreases-emit_exp : goal.decreases-emit_exp
decreases-emit_exp l = l.row * 2 + 1

abbrev pub decreases-emit_operand : goal.decreases-emit_operand
decreases-emit_operand l = l.row * 2
