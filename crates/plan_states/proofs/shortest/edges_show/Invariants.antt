use Rattle.std.proofs.Common.{◌≡◌, take, false}
use Rattle.schedule_graph.specs.Paths.{shows}
use Rattle.plan_states.specs.Questions.{is_answer_at}
use Rattle.plan_states.proofs.shortest.edges_show.Given as goal

abbrev pub invariant-loop-edge : goal.invariant-loop-edge
invariant-loop-edge l = shows (is_answer_at l.property.ends.now l.property.held.now l.property.builds l.property.question) (take l.edge-index l.edges) ≡ false
