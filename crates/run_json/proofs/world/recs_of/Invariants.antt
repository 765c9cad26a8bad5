use Rattle.run_json.specs.Worlds.{AreRecItems}
use Rattle.run_json.proofs.world.recs_of.Given as goal

abbrev pub invariant-loop-number : goal.invariant-loop-number
invariant-loop-number g l = AreRecItems l.host l.build l.number l.items.items
