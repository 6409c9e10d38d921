-- `emit_com`: each construct's code is what its parts' calls laid, with its own between and behind them; the row falls.
use Rattle.compiler.proofs.tables.Tables.+emit_com.Given as goal

abbrev pub decreases-emit_com : goal.decreases-emit_com
decreases-emit_com l = l.row
