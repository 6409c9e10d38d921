-- `lay_out`: where refusal 2 is not given the rows are few enough for the rest.
use mathlib.Core.Path.{sym}
use lib.ListN.{length}
use Rattle.rule.proofs.Verdicts.{declaration_words_pass}
use Rattle.rule.proofs.layout.lay_out.Goals as goal

pub lay_rows-requires : goal.lay_rows-requires
lay_rows-requires c =
    (declaration_words_pass (length c.args.declarations.now) (sym c.in_ok-check_declaration_words.ensures)).1
