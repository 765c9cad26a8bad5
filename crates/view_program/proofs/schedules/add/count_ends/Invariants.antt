use Rattle.std.proofs.Common.{◌≡◌, List, ◌++◌, map, take}
use Rattle.view_program.specs.Same.{same_end}
use Rattle.view_program.specs.Tally.{Sighting, counted}
use Rattle.plan_states.specs.Tallies.{count_of_tally}
use Rattle.view_program.specs.Totals.{sighting_in}
use Rattle.plan_states.specs.declared.step_end.EndOfStep.{EndOfStep}
use Rattle.view_program.proofs.schedules.add.count_ends.Given as goal

abbrev pub invariant-loop-end : goal.invariant-loop-end
invariant-loop-end l =
    (seen : List (Sighting EndOfStep)) → map count_of_tally l.fn.tallies.items ≡ counted same_end seen
    → map count_of_tally l.tallies.items ≡ counted same_end (seen ++ map (sighting_in l.choices) (take l.end-index l.ends))
