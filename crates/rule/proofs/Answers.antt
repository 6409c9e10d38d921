-- The answers as verdicts, and the answer of `check` from the checks in their order.
-- Assumes nothing.
use mathlib.Core.Path.{◌≡◌, refl, sym, ap, ◌∙◌}
use mathlib.Core.List.{List}
use Prim.Native.Nat.{ℕ}
use lib.ListN.{length}
use Rattle.std.specs.Prelude.{⊤, Result, Ok, Err}
use Rattle.refusal.specs.declared.Refusal.{Refusal}
use Rattle.refusal.specs.Refusal.{Verdict, Passes, Refuses, verdict_of, ◌and_then◌}
use Rattle.rule.specs.declared.layout.Layout.{Layout}
use Rattle.rule.specs.Table.{declaration_rows, first_cell}
use Rattle.rule.specs.Check.{node_words, declaration_words, declarations, rows, used_once, declared, nodes, tables, bases as first_cells}
use Rattle.rule.specs.Answer.{Said, passed, accepted, refused, verdict_said, said_by, words_checked, rows_checked, said_of, checked}
use Rattle.rule.specs.Layout.{Laid, laid_said, laid_out, layout_of}

-- what is said is said by the verdict, and no other verdict says it
pub said_is : (r : Result ⊤ Refusal) → verdict_said r ≡ said_by (verdict_of r)
unfolding verdict_said said_by
said_is (Ok x) = refl
said_is (Err r) = refl

abbrev verdict_behind : Said → Verdict
verdict_behind passed = Passes
verdict_behind (accepted n) = Passes
verdict_behind (refused n v) = Refuses n v

behind_said : (v : Verdict) → verdict_behind (said_by v) ≡ v
unfolding said_by
behind_said Passes = refl
behind_said (Refuses n v) = refl

verdict_said_by : (r : Result ⊤ Refusal) (v : Verdict) → verdict_said r ≡ said_by v → verdict_of r ≡ v
verdict_said_by r v e = sym (behind_said (verdict_of r)) ∙ ap verdict_behind (sym (said_is r) ∙ e) ∙ behind_said v

-- a check that is made twice passes where it did
again : (a b c d e : Verdict) → (a and_then b) and_then ((b and_then c) and_then (a and_then d and_then e)) ≡ a and_then b and_then c and_then d and_then e
again (Refuses n v) b c d e = refl
again Passes (Refuses n v) c d e = refl
again Passes Passes c d e = refl

pub words_verdict : (n d : ℕ) (r : Result ⊤ Refusal) → verdict_said r ≡ words_checked n d → verdict_of r ≡ node_words n and_then declaration_words d
unfolding words_checked
words_verdict n d r e = verdict_said_by r _ e

pub rows_verdict : (ds ns : List ℕ) (r : Result ⊤ Refusal) → verdict_said r ≡ rows_checked ds ns → verdict_of r ≡ nodes ds ns
unfolding rows_checked
rows_verdict ds ns r e = verdict_said_by r _ e

module _ (ds ns : List ℕ) where
  pub tables_in_order : (node_words (length ns) and_then declaration_words (length ds)) and_then (declared ds and_then nodes ds ns) ≡ tables ds ns
  unfolding declared nodes tables
  tables_in_order =
      again (node_words (length ns)) (declaration_words (length ds)) (declarations ds) (rows ds ns) (used_once ns)

  pub checked_from : {a b c : Verdict} → a ≡ node_words (length ns) and_then declaration_words (length ds) → b ≡ declared ds → c ≡ nodes ds ns → said_of ds (a and_then (b and_then c)) ≡ checked ds ns
  unfolding checked
  checked_from p q r = rw (p, q, r) (ap (said_of ds) tables_in_order)

module _ (ds : List ℕ) where
  said_of_lem : (v : Verdict) → (laid_out ds v).said ≡ said_by v
  unfolding said_by
  said_of_lem Passes = refl
  said_of_lem (Refuses n v) = refl

  laid_says : (r : Result Layout Refusal) → (laid_said r).said ≡ said_by (verdict_of r)
  unfolding laid_said said_by
  laid_says (Ok l) = refl
  laid_says (Err r) = refl

  pub layout_verdict : (r : Result Layout Refusal) → laid_said r ≡ layout_of ds → verdict_of r ≡ declared ds
  unfolding layout_of
  layout_verdict r e =
      sym (behind_said (verdict_of r))
      ∙ ap verdict_behind (sym (laid_says r) ∙ ap (λ (x : Laid). x.said) e ∙ said_of_lem (declared ds))
      ∙ behind_said (declared ds)

  pub layout_cells : (l : Layout) → laid_said (Ok l) ≡ layout_of ds → declared ds ≡ Passes → l.cells ≡ first_cell ds (declaration_rows ds)
  unfolding layout_of laid_said
  layout_cells l e p = ap (λ (x : Laid). x.cells) e ∙ ap (λ (v : Verdict). (laid_out ds v).cells) p

  pub layout_bases : (l : Layout) → laid_said (Ok l) ≡ layout_of ds → declared ds ≡ Passes → l.bases ≡ first_cells ds (declaration_rows ds)
  unfolding layout_of laid_said
  layout_bases l e p = ap (λ (x : Laid). x.bases) e ∙ ap (λ (v : Verdict). (laid_out ds v).bases) p
