use Rattle.std.proofs.Common.{◌≡◌, ◌++◌, take, string_bytes}
use Rattle.std.specs.Prelude.{filter}
use Rattle.std.specs.List.{flat_map}
use Rattle.plan_states.specs.Lines.{end_shown, is_of_step}
use Rattle.plan_states.proofs.lines.push_step.Given as goal

abbrev pub invariant-loop-tally : goal.invariant-loop-tally
invariant-loop-tally l =
    string_bytes l.text ≡ string_bytes l.fn.text ++ flat_map (end_shown l.outcomes.schedule_count l.step) (filter (is_of_step l.build l.place) (take l.tally-index l.outcomes.ends.items))
