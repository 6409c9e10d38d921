-- What the functions that check answer, in the paper's numbers. 01-scope.md, "Numbered refusals, in order".
use Rattle.std.specs.Prelude.{List, ℕ, ⊤, Result, Ok, Err}
use Rattle.refusal.specs.declared.Refusal.{Refusal}
use Rattle.refusal.specs.Refusal.{Verdict, Passes, Refuses, number_of, value_of, ◌and_then◌}
use Rattle.rule.specs.Table.{declaration_rows, first_cell}
use Rattle.rule.specs.Check.{node_words, declaration_words, nodes, tables}

-- "If an answer is an enum, a definition gives this paper's number and values for each of its cases. The promises use that definition."
-- A check that passes, an acceptance with the cell count, or a refusal's number and the number returned
pub data Said : Type 0 where
  passed : Said
  accepted : ℕ → Said
  refused : ℕ → ℕ → Said

unfoldable pub verdict_said : Result ⊤ Refusal → Said
verdict_said (Ok x) = passed
verdict_said (Err r) = refused (number_of r) (value_of r)

abbrev pub check_said : Result ℕ Refusal → Said
check_said (Ok n) = accepted n
check_said (Err r) = refused (number_of r) (value_of r)

-- what is said by a verdict of which nothing is returned where it passes
unfoldable pub said_by : Verdict → Said
said_by Passes = passed
said_by (Refuses n v) = refused n v

-- 1 and 2, of n node words and d declaration words
unfoldable pub words_checked : ℕ → ℕ → Said
words_checked n d = said_by (node_words n and_then declaration_words d)

-- 1, then 6 to 10
unfoldable pub rows_checked : List ℕ → List ℕ → Said
rows_checked ds ns = said_by (nodes ds ns)

abbrev pub said_of : List ℕ → Verdict → Said
said_of ds Passes = accepted (first_cell ds (declaration_rows ds))
said_of ds (Refuses n v) = refused n v

-- 1, 2 and 4 to 10
unfoldable pub checked : List ℕ → List ℕ → Said
checked ds ns = said_of ds (tables ds ns)
