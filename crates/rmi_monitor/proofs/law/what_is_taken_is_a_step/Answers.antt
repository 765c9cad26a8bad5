use Rattle.rmi_monitor.proofs.BlockSteps.{taken_is_step}
use Rattle.rmi_monitor.proofs.law.what_is_taken_is_a_step.Goals as goal

pub returns : goal.returns
returns c = λ limits history world monitor build order first. taken_is_step limits history world monitor build order first
