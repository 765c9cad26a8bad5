use Rattle.run_json.specs.Worlds.{AreBuildItems}
use Rattle.run_json.proofs.world.builds_of.Given as goal

abbrev pub invariant-loop-number : goal.invariant-loop-number
invariant-loop-number g l = AreBuildItems l.host l.number l.items.items
