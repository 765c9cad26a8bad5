use Rattle.view_program.proofs.Runs.{ends_told}
use Rattle.view_program.proofs.schedules.law.ends_are_reported.Goals as goal

pub returns : goal.returns
returns c = ends_told
