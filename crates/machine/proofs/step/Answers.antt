-- `step`: a single step is a run under the budget 1.
use Rattle.machine.proofs.Entries.{step_of_run}
use Rattle.machine.proofs.step.Goals as goal

pub returns : goal.returns
returns c = step_of_run _ _ _ _ _ _ _ c.run-left.ensures c.as_step.ensures
