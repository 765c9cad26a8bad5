use Rattle.std.proofs.Common.{◌≡◌, take, false}
use Rattle.plan_states.specs.Questions.{is_answer_at}
use Rattle.plan_states.specs.Shortest.{layer_shows}
use Rattle.plan_states.proofs.shortest.layer_shows.Given as goal

abbrev pub invariant-loop-edges : goal.invariant-loop-edges
invariant-loop-edges l = layer_shows (is_answer_at l.property.ends.now l.property.held.now l.property.builds l.property.question) (take l.edges-index l.layer) ≡ false
