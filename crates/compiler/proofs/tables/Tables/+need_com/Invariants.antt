-- `need_com`: each construct's need is made of its parts'; the row falls.
use Rattle.compiler.proofs.tables.Tables.+need_com.Given as goal

abbrev pub decreases-need_com : goal.decreases-need_com
decreases-need_com l = l.row
