use Rattle.build_seats.proofs.Told.{AreUndone-none}
use Rattle.build_seats.proofs.step.undo_step.Goals as goal

pub returns-then-count-eq0-clause-undone : goal.returns-then-count-eq0-clause-undone
returns-then-count-eq0-clause-undone g c = AreUndone-none c.args.place c.args.count c.if-count-eq0.true c.tell.ensures.ending c.tell.ensures.added
