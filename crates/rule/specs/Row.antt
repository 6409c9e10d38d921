-- What the code's row is told by, in the numbers and marks of its words. 01-scope.md, "Numbered refusals, in order"; no part of any promise.
use Rattle.std.specs.Prelude.{List, ℕ}
use Rattle.rule.specs.declared.mark.Mark.{Mark}
use Rattle.rule.specs.declared.row.Row.{Row}
use Rattle.rule.specs.Kind.{Class, Words}
use Rattle.rule.specs.Check.{word_no, words_no}
use Rattle.rule.specs.Marks.{mark_word, mark_words}

-- 6 to 9 of one word, and of the three
abbrev pub word_found : Row → Class → ℕ → ℕ
word_found r c w = word_no r.declarations.now r.nodes.now r.row c w

abbrev pub words_found : Row → Words → ℕ
words_found r k = words_no r.declarations.now r.nodes.now r.row k

-- the marks after one word, and after the three
abbrev pub word_marked : Row → Class → ℕ → List Mark → List Mark
word_marked r c w l = mark_word r.row c w l

abbrev pub words_marked : Row → Words → List Mark → List Mark
words_marked r k l = mark_words r.nodes.now r.row k l
