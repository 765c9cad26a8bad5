use Rattle.std.proofs.Common.{rules}
use Rattle.builders.proofs.Running.{are_run}
use Rattle.builders.proofs.run.run_builds.Goals as goal

pub returns-clause-run : goal.returns-clause-run
returns-clause-run g c =
    are_run g.L.Ledgers.opened (g.G.Gate.passes c.args.gate.now) (g.G.Gate.stops c.args.gate.now) c.args.workers.now c.for_each_mut.new.s (search rules)
    (λ k d lt. let at = (c.for_each_mut.ensures k d lt).1 in (at.argument.now, at.after_call.now, at.argument_is, at.left, at.call))
