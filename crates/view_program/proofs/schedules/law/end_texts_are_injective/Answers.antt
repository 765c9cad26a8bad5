use Rattle.view_program.proofs.SameEnd.{ends_tell}
use Rattle.view_program.proofs.schedules.law.end_texts_are_injective.Goals as goal

pub returns : goal.returns
returns c = ends_tell
