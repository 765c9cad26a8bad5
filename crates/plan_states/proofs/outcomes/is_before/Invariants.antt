use Rattle.std.proofs.Common.{◌≡◌, drop}
use Rattle.plan_states.specs.Tallies.{is_before}
use Rattle.plan_states.proofs.outcomes.is_before.Given as goal

abbrev pub invariant-loop-turn : goal.invariant-loop-turn
invariant-loop-turn l = is_before (drop l.turn l.one) (drop l.turn l.other) ≡ is_before l.one l.other
