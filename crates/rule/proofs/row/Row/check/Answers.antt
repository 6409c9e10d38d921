-- `check`: the row's words are what its kind has, and the lower number wins.
use mathlib.Core.Path.{◌≡◌, ap, ap₂, ◌∙◌}
use Prim.Native.Nat.{ℕ, min}
use Rattle.rule.specs.Kind.{Kind, kind_of, words_of, kind_said}
use Rattle.rule.specs.Table.{kind_at}
use Rattle.rule.specs.Check.{words_no, row_no, verdict_at}
use Rattle.rule.specs.Marks.{mark_words}
use Rattle.rule.proofs.Reading.{kind_word}
use Rattle.rule.proofs.row.Row.check.Goals as goal
use Rattle.rule.proofs.row.Row.check.Goals.{After-try_from-kind}

kind_read : (c : After-try_from-kind) → kind_said c.try_from-kind.result ≡ kind_at c.args.self.now.nodes.now c.args.self.now.row
kind_read c = c.try_from-kind.ensures.0 ∙ ap kind_of (kind_word c.args.self.now.nodes.now c.args.self.now.row)

pub check_last-requires : goal.check_last-requires
check_last-requires c = kind_read (goal.at.check_last-requires c).After-try_from-kind

pub returns-clause-refusal : goal.returns-clause-refusal
unfolding row_no
returns-clause-refusal c =
    let row = c.args.self.now in
    c.refusal_at.ensures
    ∙ ap (λ (k : ℕ). verdict_at k row.row)
    (c.lower-found.ensures
    ∙ ap₂ min (c.check_kind-words.ensures.refusal ∙ ap (λ (k : Kind). words_no row.declarations.now row.nodes.now row.row (words_of k)) (kind_read (goal.at.returns-clause-refusal c).After-try_from-kind)) c.check_last.ensures)

pub returns-clause-marks : goal.returns-clause-marks
returns-clause-marks c =
    let row = c.args.self.now in
    c.check_kind-words.ensures.marks
    ∙ ap (λ (k : Kind). mark_words row.nodes.now row.row (words_of k) c.args.marks.now) (kind_read (goal.at.returns-clause-marks c).After-try_from-kind)
