use Rattle.std.proofs.Common.{rules}
use Rattle.build_seats.specs.Report.{cut_short}
use Rattle.build_seats.proofs.Stretches.{IsStretch-cut}
use Rattle.build_seats.proofs.Told.{IsStepBack-none, IsWayBack-opened, IsWayBack-refused}
use Rattle.build_seats.proofs.step.go_back.Goals as goal

pub returns-in_default-clause-gone : goal.returns-in_default-clause-gone
returns-in_default-clause-gone g c = IsStepBack-none c.args.place c.args.standing.now.journal c.args.mark c.in_default.is c.tell.ensures.ending c.tell.ensures.added

pub returns-in-Ok-checked_back-clause-gone : goal.returns-in-Ok-checked_back-clause-gone
returns-in-Ok-checked_back-clause-gone g c =
    rw c.in-Some.is (IsWayBack-opened c.args.place c.in-Some.mark c.args.standing.now.journal c.in-Ok-checked_back.count c.min-count.result c.turn.ensures c.in-Ok.ensures.ok
    c.in-Ok-checked_back.ensures.told c.in-Ok-checked_back.ensures.counted (search rules) c.undo_step.ensures.undone)

pub returns-in-Err-checked_back-clause-gone : goal.returns-in-Err-checked_back-clause-gone
returns-in-Err-checked_back-clause-gone g c =
    rw c.in-Some.is (IsWayBack-refused c.args.place c.in-Some.mark c.args.standing.now.journal c.in-Err-checked_back.refusal c.turn.ensures c.in-Ok.ensures.ok
    c.in-Err-checked_back.ensures.told c.in-Err-checked_back.ensures.counted c.tell-in-Err-checked_back.ensures.ending c.tell-in-Err-checked_back.ensures.added)

pub returns-in-Err-clause-gone : goal.returns-in-Err-clause-gone
returns-in-Err-clause-gone g c = rw c.in-Some.is (IsStretch-cut c.turn.ensures c.in-Err.ensures.stuck cut_short)
