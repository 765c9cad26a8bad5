use Rattle.rmi_monitor.proofs.Backward.{newest_is_accepted}
use Rattle.rmi_monitor.proofs.law.newest_is_accepted.Goals as goal

pub returns : goal.returns
returns c = λ limits history world monitor build act back place. newest_is_accepted limits history world monitor build act back place
