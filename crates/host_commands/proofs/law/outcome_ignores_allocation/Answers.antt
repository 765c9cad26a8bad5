use Rattle.host_commands.proofs.Allocation.{any_allocation}
use Rattle.host_commands.proofs.law.outcome_ignores_allocation.Goals as goal

pub returns : goal.returns
returns c = λ limits used cmd granules one other realm cells. any_allocation limits used one other realm cells cmd granules
