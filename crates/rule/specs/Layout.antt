-- What `lay_out` answers: what is said of the declarations, their cells and first cells; nothing is laid out where they are refused.
use Rattle.std.specs.Prelude.{List, ℕ, replicate, Result, Ok, Err}
use Rattle.refusal.specs.declared.Refusal.{Refusal}
use Rattle.refusal.specs.Refusal.{Verdict, Passes, Refuses, number_of, value_of}
use Rattle.rule.specs.declared.layout.Layout.{Layout}
use Rattle.rule.specs.Table.{declaration_limit, declaration_rows, first_cell}
use Rattle.rule.specs.Check.{bases as first_cells, declared}
use Rattle.rule.specs.Answer.{Said, passed, refused}

pub record Laid : Type 0 where
  pub said : Said
  pub cells : ℕ
  pub bases : List ℕ

abbrev pub laid_as : Said → ℕ → List ℕ → Laid
laid_as s n l = record { said = s; cells = n; bases = l }

abbrev pub no_layout : ℕ → ℕ → Laid
no_layout n v = laid_as (refused n v) 0 (replicate declaration_limit 0)

unfoldable pub laid_said : Result Layout Refusal → Laid
laid_said (Ok l) = laid_as passed l.cells l.bases
laid_said (Err r) = no_layout (number_of r) (value_of r)

abbrev pub laid_out : List ℕ → Verdict → Laid
laid_out ds Passes = laid_as passed (first_cell ds (declaration_rows ds)) (first_cells ds (declaration_rows ds))
laid_out ds (Refuses n v) = no_layout n v

-- 2, 4 and 5
unfoldable pub layout_of : List ℕ → Laid
layout_of ds = laid_out ds (declared ds)
