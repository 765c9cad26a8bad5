use Rattle.explain.proofs.FirstFailing.{needs_decided}
use Rattle.explain.proofs.law.needs_decide.Goals as goal

pub returns : goal.returns
returns c = needs_decided
