use Rattle.rmi_monitor.proofs.Blocks.{whole_taken_at, seen_taken_at}
use Rattle.rmi_monitor.proofs.monitor.Monitor.take_at.Goals as goal

pub invariant_of-self : goal.invariant_of-self
invariant_of-self g c =
    whole_taken_at _ c.self.invariant c.take_at.result c.args.order c.args.first _ _ c.take_at.ensures.answer c.take_at.ensures.taken c.take_at.ensures.unchanged c.take_at.ensures.bytes

pub returns-clause-taken : goal.returns-clause-taken
returns-clause-taken g c = seen_taken_at _ c.self.invariant c.args.self.now c.self.view_is _ _ c.take_at.ensures.bytes c.take_at.result c.args.order c.args.first c.take_at.ensures.taken
