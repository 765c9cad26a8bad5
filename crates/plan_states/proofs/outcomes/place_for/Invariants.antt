use Rattle.std.proofs.Common.{◌≡◌, ◌+◌, drop, map}
use Rattle.plan_states.specs.Tallies.{place_for, count_of_tally}
use Rattle.plan_states.proofs.outcomes.place_for.Given as goal

abbrev pub invariant-loop-place : goal.invariant-loop-place
invariant-loop-place g l = l.place + place_for l.first (map count_of_tally (drop l.place l.tallies)) ≡ place_for l.first (map count_of_tally l.tallies)
