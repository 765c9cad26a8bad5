use Rattle.std.proofs.Common.{◌≡◌, ◌<◌, drop}
use Rattle.std.specs.List.{All}
use Rattle.realm_plan.specs.Plan.{order_of}
use Rattle.realm_plan.proofs.Fronts.{or_fault_with_front}
use Rattle.realm_plan.proofs.turns.order_of.Given as goal

abbrev pub invariant-loop-place : goal.invariant-loop-place
invariant-loop-place l = record {
  read : or_fault_with_front l.found.items (order_of l.count l.place (drop l.place l.entries)) ≡ order_of l.count 0 l.entries;
  below : All (λ build. build < l.count) l.found.items;
}
