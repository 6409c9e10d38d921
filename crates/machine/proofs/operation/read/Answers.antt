-- `read`: place 0 holds 0, so a register reads as what it holds.
use Rattle.machine.proofs.Cleared.{read_cleared}
use Rattle.machine.proofs.operation.read.Goals as goal

pub returns : goal.returns
returns c = read_cleared _ _ c.requires.1
