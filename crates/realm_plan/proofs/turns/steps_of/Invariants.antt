use Rattle.std.proofs.Common.{◌≡◌, drop, map}
use Rattle.realm_plan.specs.Plan.{steps_of}
use Rattle.realm_plan.proofs.Fronts.{or_fault_with_front}
use Rattle.realm_plan.proofs.turns.steps_of.Given as goal

abbrev pub invariant-loop-k : goal.invariant-loop-k
invariant-loop-k l = or_fault_with_front l.found.items (steps_of l.build l.k (map (λ t. t.now) (drop l.k l.texts))) ≡ steps_of l.build 0 (map (λ t. t.now) l.texts)
