use Rattle.realm_model.proofs.TakenAlone.{schedule_does_not_matter}
use Rattle.realm_model.proofs.law.schedule_does_not_matter.Goals as goal

pub returns : goal.returns
returns c = schedule_does_not_matter
