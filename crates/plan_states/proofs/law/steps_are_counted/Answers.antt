use Rattle.plan_states.proofs.StepEnds.{steps_counted}
use Rattle.plan_states.proofs.law.steps_are_counted.Goals as goal

pub returns : goal.returns
returns c = steps_counted
