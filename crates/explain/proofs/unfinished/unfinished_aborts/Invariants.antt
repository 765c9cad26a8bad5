use Rattle.std.proofs.Common.{◌≡◌}
use Rattle.std.specs.List.{filter_map, range_with_len}
use Rattle.explain.specs.Unfinished.{unfinished_abort}
use Rattle.explain.proofs.unfinished.unfinished_aborts.Given as goal

abbrev pub invariant-loop-place : goal.invariant-loop-place
invariant-loop-place g l = l.aborts.items ≡ filter_map (unfinished_abort l.host) (range_with_len 0 l.place)
