-- `perform`: a sum is what its rule says.
use Rattle.machine.specs.Step.{perform}
use Rattle.machine.proofs.operation.perform.Goals as goal

pub returns-in-Add : goal.returns-in-Add
unfolding perform
returns-in-Add c p = let v = c.calculate.ensures in rw (c.in-Add.is, v.2.0 p, v.2.1, v.1)
