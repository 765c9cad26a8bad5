use Rattle.std.proofs.Common.{◌≡◌, map, take}
use Rattle.plan_states.proofs.outcomes.builds_of_path.Given as goal

abbrev pub invariant-loop-label : goal.invariant-loop-label
invariant-loop-label l = l.builds.items ≡ map (λ label. label.build) (take l.label-index l.path)
