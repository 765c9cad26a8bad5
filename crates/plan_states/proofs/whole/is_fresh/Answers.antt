use Rattle.std.proofs.Common.{◌==◌, sym}
use Rattle.plan_states.specs.Whole.{done_of}
use Rattle.plan_states.proofs.Loops.{numbers_pass}
use Rattle.plan_states.proofs.whole.is_fresh.Goals as goal

pub returns : goal.returns
returns c = sym (numbers_pass (λ build. done_of c.args.done.now build == 0) 8 c.loop-build.build c.loop-build-test.false c.loop-build.invariant)
