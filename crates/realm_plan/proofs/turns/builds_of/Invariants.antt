use Rattle.std.proofs.Common.{◌≡◌, drop, map}
use Rattle.realm_plan.specs.Plan.{builds_of}
use Rattle.realm_plan.proofs.Fronts.{or_fault_with_front}
use Rattle.realm_plan.proofs.turns.builds_of.Given as goal

abbrev pub invariant-loop-k : goal.invariant-loop-k
invariant-loop-k l =
    or_fault_with_front (map (λ b. b.items) l.found.items) (builds_of l.k (map (λ b. map (λ t. t.now) b.items) (drop l.k l.texts))) ≡ builds_of 0 (map (λ b. map (λ t. t.now) b.items) l.texts)
