use Rattle.std.proofs.Common.{◌≡◌, ◌++◌, string_bytes}
use Rattle.std.specs.List.{flat_map, range_with_len}
use Rattle.plan_states.specs.Lines.{never_refused_lines}
use Rattle.plan_states.proofs.text.push_all_never_refused.Given as goal

abbrev pub invariant-loop-build : goal.invariant-loop-build
invariant-loop-build l = string_bytes l.text ≡ string_bytes l.fn.text ++ flat_map (never_refused_lines l.schedule_count l.never_refused) (range_with_len 0 l.build)
