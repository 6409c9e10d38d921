-- `step_in_place`: a single step is a run under the budget 1.
use Rattle.machine.proofs.Entries.{step_of_run}
use Rattle.machine.proofs.step_in_place.Goals as goal

pub returns : goal.returns
returns c = step_of_run _ _ _ _ _ _ _ c.run_in_place.ensures c.as_step.ensures
