use Rattle.build_seats.proofs.Comparing.{same_at_end}
use Rattle.build_seats.proofs.close.is_trail.Goals as goal

pub returns : goal.returns
returns c =
    same_at_end c.args.build c.loop-event.at c.loop-event.event-index c.args.history.now c.args.trail.now
    c.loop-event.invariant.0 c.loop-event-test.false c.loop-event.invariant.1
