use Rattle.realm_model.proofs.Aborting.{stays_at_rest}
use Rattle.realm_model.proofs.law.builds_stay_at_rest.Goals as goal

pub returns : goal.returns
returns c = λ limits history world build event next at rest undoing stepped. stays_at_rest limits history world build event next at rest undoing stepped
