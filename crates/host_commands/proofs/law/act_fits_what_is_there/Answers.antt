use Rattle.host_commands.proofs.Allocation.{act_fits}
use Rattle.host_commands.proofs.law.act_fits_what_is_there.Goals as goal

pub returns : goal.returns
returns c = λ cmd granules allocated act realm cells. act_fits allocated realm cells cmd granules act
