-- `size_exp`: each construct's size is the sum of its operands' and its own; the row falls.
use Rattle.compiler.proofs.tables.Tables.+size_exp.Given as goal

abbrev pub decreases-size_exp : goal.decreases-size_exp
decreases-size_exp l = l.row
