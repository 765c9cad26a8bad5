use Rattle.std.proofs.Common.{◌≡◌, take, vec_items, false}
use Rattle.std.specs.List.{list_any}
use Rattle.plan_states.specs.Questions.{is_answer_at}
use Rattle.plan_states.specs.Shortest.{layer_shows}
use Rattle.plan_states.proofs.shortest.first_layer.Given as goal

abbrev pub invariant-loop-depth : goal.invariant-loop-depth
invariant-loop-depth l =
    list_any (λ layer. layer_shows (is_answer_at l.property.ends.now l.property.held.now l.property.builds l.property.question) (vec_items layer)) (take l.depth l.layers) ≡ false
