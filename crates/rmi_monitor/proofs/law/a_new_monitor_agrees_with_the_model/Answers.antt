use Rattle.rmi_monitor.proofs.FreshMirror.{fresh_is_mirror}
use Rattle.rmi_monitor.proofs.law.a_new_monitor_agrees_with_the_model.Goals as goal

pub returns : goal.returns
returns c = λ limits. fresh_is_mirror limits
