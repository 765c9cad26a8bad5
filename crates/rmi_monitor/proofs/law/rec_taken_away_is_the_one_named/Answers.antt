use Rattle.rmi_monitor.proofs.RecsNamed.{rec_named_is}
use Rattle.rmi_monitor.proofs.law.rec_taken_away_is_the_one_named.Goals as goal

pub returns : goal.returns
returns c = λ limits world build act. rec_named_is limits world build act
