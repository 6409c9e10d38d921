-- What emission goes by: what a row says, how many instructions its parts have, what is left of the pool, and how code is laid behind code and before it.
-- Assumes nothing.
use Rattle.compiler.proofs.Rows.{exp_read, com_read}
use Rattle.compiler.proofs.Sizes.{size_exp_lem, size_com_lem}
use Rattle.compiler.proofs.Pools.{length_without}
use Rattle.compiler.proofs.Emitting.{put_append, put_late}

pub ruleset emits = (exp_read, com_read, size_exp_lem, size_com_lem, length_without, put_append, put_late)
