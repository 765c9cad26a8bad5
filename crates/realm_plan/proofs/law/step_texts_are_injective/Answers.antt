use Rattle.realm_plan.proofs.StepTexts.{spelled_once}
use Rattle.realm_plan.proofs.law.step_texts_are_injective.Goals as goal

pub returns : goal.returns
returns c = spelled_once
