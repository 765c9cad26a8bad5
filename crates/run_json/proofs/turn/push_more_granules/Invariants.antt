use Rattle.std.proofs.Common.{◌≡◌, ◌++◌}
use Rattle.run_json.specs.Turns.{more_granules}
use Rattle.run_json.proofs.turn.push_more_granules.Given as goal

abbrev pub invariant-loop-place : goal.invariant-loop-place
invariant-loop-place g l = l.items.items ≡ l.fn.items.items ++ more_granules l.host l.from l.place
