-- `PoolWords` has written the registers passed so far that the pool has.
use Rattle.std.specs.Fmt.{HasWritten, IsPlainFormatter}
use Rattle.wording.specs.Words.{pool_words}
use Rattle.wording.proofs.PoolWordsDisplay.fmt.Given as goal

abbrev pub invariant-loop-register : goal.invariant-loop-register
invariant-loop-register g l =
    IsPlainFormatter l.initial.f → HasWritten g.W.Write.write_str_gives l.initial.f (pool_words l.self.0 l.register-counter) l.f
