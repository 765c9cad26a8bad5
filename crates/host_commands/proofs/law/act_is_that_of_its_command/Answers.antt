use Rattle.host_commands.proofs.ActOf.{of_command}
use Rattle.host_commands.proofs.law.act_is_that_of_its_command.Goals as goal

pub returns : goal.returns
returns c = λ cmd granules allocated act. of_command allocated cmd granules act
