use Rattle.realm_host.proofs.Aborts.{IsGoingDown}
use Rattle.realm_host.proofs.host.Host.undo_down_to.Given as goal

abbrev pub invariant-loop : goal.invariant-loop
invariant-loop g l = IsGoingDown l.fn.self l.build l.count l.counter l.self
