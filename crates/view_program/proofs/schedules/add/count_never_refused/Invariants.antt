use Rattle.std.proofs.Common.{◌≡◌, ℕ, List, ◌++◌, map}
use Rattle.std.specs.Prelude.{nat_eq, filter}
use Rattle.std.specs.List.{range_with_len}
use Rattle.view_program.specs.Tally.{Sighting, counted}
use Rattle.plan_states.specs.Tallies.{count_of_tally}
use Rattle.view_program.specs.Totals.{sighting_in, is_smooth}
use Rattle.view_program.proofs.schedules.add.count_never_refused.Given as goal

abbrev pub invariant-loop-build : goal.invariant-loop-build
invariant-loop-build l =
    (seen : List (Sighting ℕ)) → map count_of_tally l.fn.tallies.items ≡ counted nat_eq seen
    → map count_of_tally l.tallies.items ≡ counted nat_eq (seen ++ map (sighting_in l.choices) (filter (is_smooth l.ends) (range_with_len 0 l.build)))
