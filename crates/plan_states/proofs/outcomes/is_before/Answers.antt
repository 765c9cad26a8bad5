use Rattle.std.proofs.Common.{◌∙◌, arith}
use Rattle.plan_states.proofs.Tallies.{before-end}
use Rattle.plan_states.proofs.outcomes.is_before.Goals as goal

pub returns : goal.returns
returns c =
    before-end c.args.one.now c.args.other.now c.loop-turn.turn (omega (arith, c.min-turn-end.ensures, c.loop-turn-test.false))
    ∙ c.loop-turn.invariant
