use Rattle.std.proofs.Common.{◌≡◌, drop, map}
use Rattle.toml.specs.View.{items_view}
use Rattle.realm_plan.specs.Contents.{build_texts_of}
use Rattle.realm_plan.proofs.Fronts.{with_front}
use Rattle.realm_plan.proofs.contents.builds_of.Given as goal

abbrev pub invariant-loop-value : goal.invariant-loop-value
invariant-loop-value l = with_front (map (λ b. map (λ t. t.now) b.items) l.found.items) (build_texts_of (items_view (drop l.value-index l.value-items))) ≡ build_texts_of (items_view l.array.items)
