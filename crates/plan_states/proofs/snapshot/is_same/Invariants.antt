use Rattle.plan_states.specs.Snapshots.{AreSameBuilds}
use Rattle.plan_states.proofs.snapshot.is_same.Given as goal

abbrev pub invariant-loop-build : goal.invariant-loop-build
invariant-loop-build l = AreSameBuilds l.build l.one.builds.items l.other.builds.items
