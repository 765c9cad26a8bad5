use Rattle.std.proofs.Common.{◌≡◌, ◌++◌, string_bytes}
use Rattle.std.specs.List.{flat_map, range_with_len}
use Rattle.plan_replay.specs.Run.{build_text}
use Rattle.plan_replay.proofs.map.push_map.Given as goal

abbrev pub invariant-loop-place : goal.invariant-loop-place
invariant-loop-place g l = string_bytes l.text ≡ string_bytes l.fn.text ++ flat_map (build_text l.host) (range_with_len 0 l.place)
