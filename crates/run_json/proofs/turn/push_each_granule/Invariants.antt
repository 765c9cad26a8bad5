use Rattle.std.proofs.Common.{◌≡◌, ◌++◌, take}
use Rattle.run_json.specs.Turns.{each_granule}
use Rattle.run_json.proofs.turn.push_each_granule.Given as goal

abbrev pub invariant-loop-granule : goal.invariant-loop-granule
invariant-loop-granule g l = l.items.items ≡ l.fn.items.items ++ each_granule l.host (take l.granule-index l.granules)
