-- The marks by which refusal 10 is told while the rows are gone through once: whether a row is not met as a child, is met once, or more often.
use Rattle.std.specs.Prelude.{Bool, true, false, cond, not, List, ℕ, zero, suc, ◌-◌, ltb, get_or, replicate, set}
use Rattle.refusal.specs.Refusal.{Verdict, first_refused}
use Rattle.rule.specs.declared.mark.Mark.{Mark}
use Rattle.rule.specs.declared.mark.Mark.TheVariants.{Unmet, Once, Often}
use Rattle.rule.specs.Kind.{Class, Words, words_of, first, second, third}
use Rattle.rule.specs.Table.{row_limit, word, kind_at}
use Rattle.rule.specs.Check.{is_child}

-- the mark of a row that is met once more
abbrev pub more : Mark → Mark
more Unmet = Once
more Once = Often
more Often = Often

-- a child of row i that is below it is marked
abbrev pub mark_child : ℕ → ℕ → List Mark → List Mark
mark_child i w l = cond (ltb w i) (set l w (more (get_or l w Unmet))) l

-- one word marks where it is a child, and the three words of a row one after the other
abbrev pub mark_word : ℕ → Class → ℕ → List Mark → List Mark
mark_word i c w l = cond (is_child c) (mark_child i w l) l

abbrev pub mark_words : List ℕ → ℕ → Words → List Mark → List Mark
mark_words ns i k l =
    mark_word i (third k) (word ns i 3) (mark_word i (second k) (word ns i 2) (mark_word i (first k) (word ns i 1) l))

-- the marks after the rows below n
unfoldable pub marked : List ℕ → ℕ → List Mark
marked ns zero = replicate row_limit Unmet
marked ns (suc i) = mark_words ns i (words_of (kind_at ns i)) (marked ns i)

-- what refusal 10 asks of a mark, and of row j's
abbrev pub is_once : Mark → Bool
is_once Unmet = false
is_once Once = true
is_once Often = false

abbrev pub not_once : List Mark → ℕ → Bool
not_once l j = not (is_once (get_or l j Unmet))

-- refusal 10 of n rows, told from their marks
unfoldable pub once_marked : List Mark → ℕ → Verdict
once_marked l n = first_refused (λ j. 10) (not_once l) (n - 1)
