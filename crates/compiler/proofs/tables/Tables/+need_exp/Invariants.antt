-- `need_exp`: each construct's need is made of its operands'; the row falls.
use Rattle.compiler.proofs.tables.Tables.+need_exp.Given as goal

abbrev pub decreases-need_exp : goal.decreases-need_exp
decreases-need_exp l = l.row
