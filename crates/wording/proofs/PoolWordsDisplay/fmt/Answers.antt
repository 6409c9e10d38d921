-- `PoolWords` writes a register's number exactly where its bit is set.
use Rattle.std.proofs.Common.{rules, sym}
use Rattle.std.proofs.Output.{has_written_append, has_written_of_eq}
use Rattle.wording.specs.Words.{pool_words}
use Rattle.wording.proofs.Registers.{pool_words_in, pool_words_out}
use Rattle.wording.proofs.PoolWordsDisplay.fmt.Goals as goal
use Rattle.wording.proofs.PoolWordsDisplay.fmt.Goals.{then-self-register-eq1+in_ok-write, else-self-register-eq1}

pub loop-register-init : goal.loop-register-init
unfolding pool_words
loop-register-init g c = search rules

pub loop-register-preserved : goal.loop-register-preserved
loop-register-preserved g c =
    λ p. elim c.if-self-register-eq1.branch [
      | then-self-register-eq1+in_ok-write w ↦
          let e = pool_words_in c.args.self.now.0 c.loop-register.register-counter w.if-self-register-eq1.true in
          has_written_of_eq _ _ _ _ _ (sym e) (has_written_append _ _ _ _ _ _ (c.loop-register.invariant p) (search rules))
      | else-self-register-eq1 w ↦
          let e = pool_words_out c.args.self.now.0 c.loop-register.register-counter w.if-self-register-eq1.false in
          has_written_of_eq _ _ _ _ _ (sym e) (search (rules, c.loop-register.invariant p))
    ]
