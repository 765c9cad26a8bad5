use Rattle.std.proofs.Common.{◌≡◌, ◌++◌, take, string_bytes}
use Rattle.std.specs.Prelude.{filter}
use Rattle.std.specs.List.{flat_map}
use Rattle.plan_replay.specs.Place.{giving_up}
use Rattle.plan_states.specs.Lines.{give_up_shown, is_of_step}
use Rattle.plan_states.proofs.lines.push_give_ups.Given as goal

abbrev pub invariant-loop-tally : goal.invariant-loop-tally
invariant-loop-tally l =
    string_bytes l.text ≡ string_bytes l.fn.text ++ flat_map (give_up_shown l.outcomes.schedule_count) (filter (is_of_step l.build giving_up) (take l.tally-index l.outcomes.ends.items))
