use Rattle.realm_host.proofs.LeftOut.{IsSoFar}
use Rattle.realm_host.proofs.without.apply_without.Given as goal

abbrev pub invariant-loop-event : goal.invariant-loop-event
invariant-loop-event g l = IsSoFar l.fn.ledger l.build l.event-index l.fresh
