use Rattle.std.proofs.Common.{◌≡◌, drop}
use Rattle.toml.specs.View.{items_view}
use Rattle.realm_plan.specs.Contents.{integers_of}
use Rattle.realm_plan.proofs.Fronts.{with_front}
use Rattle.realm_plan.proofs.contents.integers_of.Given as goal

abbrev pub invariant-loop-value : goal.invariant-loop-value
invariant-loop-value l = with_front l.found.items (integers_of (items_view (drop l.value-index l.value-items))) ≡ integers_of (items_view l.array.items)
