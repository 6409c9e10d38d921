-- `check_rows`: where refusal 1 is not given there are rows, and few enough for the rest.
use mathlib.Core.Path.{sym}
use native.Mathlib.Omega.{arith}
use lib.ListN.{length}
use Rattle.rule.proofs.Verdicts.{node_words_pass}
use Rattle.rule.proofs.check_rows.Goals as goal

pub scan_rows-requires : goal.scan_rows-requires
scan_rows-requires c =
    let h = node_words_pass (length c.args.nodes.now) (sym c.in_ok-check_node_words.ensures) in
    omega arith
