use Rattle.std.proofs.Common.{◌≡◌, ◌++◌, take, string_bytes}
use Rattle.std.specs.List.{flat_map}
use Rattle.plan_states.specs.Lines.{refusals_line}
use Rattle.plan_states.proofs.lines.push_by_refusal.Given as goal

abbrev pub invariant-loop-tally : goal.invariant-loop-tally
invariant-loop-tally l = string_bytes l.text ≡ string_bytes l.fn.text ++ flat_map (refusals_line l.schedule_count) (take l.tally-index l.by_refusal)
