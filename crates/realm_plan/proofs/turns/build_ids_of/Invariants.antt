use Rattle.std.proofs.Common.{◌≡◌, take}
use Rattle.realm_plan.proofs.turns.build_ids_of.Given as goal

abbrev pub invariant-loop-build : goal.invariant-loop-build
invariant-loop-build l = l.turns.items ≡ take l.build-index l.builds
