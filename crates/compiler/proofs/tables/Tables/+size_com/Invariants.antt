-- `size_com`: each construct's size is the sum of its parts' and its own; the row falls.
use Rattle.compiler.proofs.tables.Tables.+size_com.Given as goal

abbrev pub decreases-size_com : goal.decreases-size_com
decreases-size_com l = l.row
