use Rattle.std.proofs.Common.{refl, false}
use Rattle.build_seats.proofs.Plans.{IsWork-stretch, IsWork-ended}
use Rattle.build_seats.proofs.client.work.Goals as goal

pub returns-in-Cut-clause-work : goal.returns-in-Cut-clause-work
returns-in-Cut-clause-work g c = IsWork-stretch c.args.steps.now false c.first-standing.ensures c.requires.empty refl c.in-Cut.ensures.taken

pub returns-in_default-clause-work : goal.returns-in_default-clause-work
returns-in_default-clause-work g c = IsWork-ended c.args.steps.now c.first-standing.ensures c.requires.empty c.in_default.not-Cut c.take_steps.ensures.taken
