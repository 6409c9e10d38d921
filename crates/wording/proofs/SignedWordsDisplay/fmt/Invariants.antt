-- `SignedWords` has written the words passed so far.
use Rattle.std.proofs.Common.{take}
use Rattle.std.specs.Fmt.{HasWritten, IsPlainFormatter}
use Rattle.wording.specs.Words.{signed_words}
use Rattle.wording.proofs.SignedWordsDisplay.fmt.Given as goal

abbrev pub invariant-loop-word : goal.invariant-loop-word
invariant-loop-word g l =
    IsPlainFormatter l.initial.f → HasWritten g.W.Write.write_str_gives l.initial.f (signed_words (take l.word-index l.word-items)) l.f
