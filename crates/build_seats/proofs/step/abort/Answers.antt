use Rattle.std.proofs.Common.{◌<◌, length, subst}
use Rattle.build_seats.proofs.Told.{IsAbort-running}
use Rattle.build_seats.proofs.step.abort.Goals as goal

pub returns-then-running-gt0-clause-aborted : goal.returns-then-running-gt0-clause-aborted
returns-then-running-gt0-clause-aborted g c =
    IsAbort-running c.args.place c.args.standing.now.journal c.args.standing.now.running
    (subst (λ numbers. 0 < length numbers) c.running-running.ensures.value c.if-running-gt0.true) c.tell.ensures.ending c.tell.ensures.added
