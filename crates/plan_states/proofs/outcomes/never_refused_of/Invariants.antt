use Rattle.std.proofs.Common.{◌≡◌, map}
use Rattle.plan_states.specs.Tallies.{all_added, count_of_tally, never_refused_tally}
use Rattle.plan_states.proofs.outcomes.never_refused_of.Given as goal

abbrev pub invariant-loop-build : goal.invariant-loop-build
invariant-loop-build l = map count_of_tally l.never_refused.items ≡ all_added (never_refused_tally l.graph) l.build
