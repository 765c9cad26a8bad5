use Rattle.realm_host.proofs.Backward.{newest_take, can_act, command_back, never_refused}
use Rattle.realm_host.proofs.host.Host.reverse.Goals as goal

pub give_back-requires-clause-newest : goal.give_back-requires-clause-newest
give_back-requires-clause-newest g c = newest_take c.args.self.now c.args.build c.args.back c.requires.back c.in-UnTake.order c.in-UnTake.first c.in-UnTake.is

pub act-requires : goal.act-requires
act-requires g c = can_act c.args.self.now c.requires.legal c.args.build c.args.back c.requires.back (command_back c.args.back c.args.self.now c.args.build c.requires.back c.in_default.not-UnTake)

pub unreachable-requires : goal.unreachable-requires
unreachable-requires g c = never_refused c.args.self.now c.requires.legal c.args.build c.args.back c.requires.back c.in_default-act.field-0 c.in_default-act.ensures.0
