use Rattle.std.proofs.Common.{Bool, Vec, Global, vec_items, sym, ap, ◌∙◌}
use Rattle.schedule_graph.specs.Paths.{shows}
use Rattle.schedule_graph.specs.declared.graph.Edge.{Edge}
use Rattle.plan_states.specs.Questions.{is_answer_at}
use Rattle.plan_states.specs.declared.edges.Label.{Label}
use Rattle.plan_states.specs.declared.question.AnswersQuestion.{AnswersQuestion}
use Rattle.plan_states.proofs.Loops.{none_more, none_pass, one_passes}
use Rattle.plan_states.proofs.shortest.layer_shows.Goals as goal

abbrev is_answer_for : AnswersQuestion → Label → Bool
is_answer_for property = is_answer_at property.ends.now property.held.now property.builds property.question

abbrev edges_answer : AnswersQuestion → Vec (Edge Label) Global → Bool
edges_answer property edges = shows (is_answer_for property) (vec_items edges)

pub returns-then-edges_show : goal.returns-then-edges_show
returns-then-edges_show c =
    sym (one_passes (edges_answer c.args.property.now) c.args.layer.now c.loop-edges.edges-index c.edges-item.result c.loop-edges-test.true c.edges-item.is
    (sym (ap (shows (is_answer_for c.args.property.now)) c.deref.ensures.value) ∙ sym c.if-edges_show.ensures))

pub loop-edges-preserved : goal.loop-edges-preserved
loop-edges-preserved c =
    none_more (edges_answer c.args.property.now) c.args.layer.now c.loop-edges.edges-index c.edges-item.result c.loop-edges-test.true c.edges-item.is c.loop-edges.invariant
    (sym (ap (shows (is_answer_for c.args.property.now)) c.deref.ensures.value) ∙ sym c.if-edges_show.ensures)

pub returns : goal.returns
returns c = sym (none_pass (edges_answer c.args.property.now) c.args.layer.now c.loop-edges.edges-index c.loop-edges-test.false c.loop-edges.invariant)
