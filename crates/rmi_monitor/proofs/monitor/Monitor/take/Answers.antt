use Rattle.rmi_monitor.proofs.Blocks.{whole_taken, seen_taken}
use Rattle.rmi_monitor.proofs.monitor.Monitor.take.Goals as goal

pub invariant_of-self : goal.invariant_of-self
invariant_of-self g c = whole_taken _ c.self.invariant c.take.result c.args.order _ _ c.take.ensures.block c.take.ensures.taken c.take.ensures.unchanged c.take.ensures.bytes

pub returns-clause-taken : goal.returns-clause-taken
returns-clause-taken g c = seen_taken _ c.self.invariant c.args.self.now c.self.view_is _ _ c.take.ensures.bytes c.take.result c.args.order c.take.ensures.taken
