use Rattle.host_commands.proofs.NoAct.{no_act_is_input}
use Rattle.host_commands.proofs.law.missing_act_is_an_input_error.Goals as goal

pub returns : goal.returns
returns c = λ cmd granules allocated rd cells long none wide. no_act_is_input allocated rd wide cmd granules cells long none
