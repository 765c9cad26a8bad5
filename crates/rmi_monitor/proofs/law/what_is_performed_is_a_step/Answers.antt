use Rattle.rmi_monitor.proofs.Forward.{performed_is_step}
use Rattle.rmi_monitor.proofs.law.what_is_performed_is_a_step.Goals as goal

pub returns : goal.returns
returns c = λ limits history world monitor build act place. performed_is_step limits history world monitor build act place
