use Rattle.rmi_monitor.proofs.Ready.{asked_is_ready}
use Rattle.rmi_monitor.proofs.law.what_is_asked_can_be_performed.Goals as goal

pub returns : goal.returns
returns c = λ limits history world monitor build act place. asked_is_ready limits history world monitor build act place
