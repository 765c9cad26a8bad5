use Rattle.std.proofs.Common.{Bool, Vec, Global, vec_items, sym, ap, ◌∙◌}
use Rattle.schedule_graph.specs.declared.graph.Edge.{Edge}
use Rattle.plan_states.specs.Questions.{is_answer_at}
use Rattle.plan_states.specs.Shortest.{layer_shows}
use Rattle.plan_states.specs.declared.edges.Label.{Label}
use Rattle.plan_states.specs.declared.question.AnswersQuestion.{AnswersQuestion}
use Rattle.plan_states.proofs.Loops.{none_more, none_pass}
use Rattle.plan_states.proofs.Positions.{position_found, position_none}
use Rattle.plan_states.proofs.shortest.first_layer.Goals as goal

abbrev answers_in : AnswersQuestion → Vec (Vec (Edge Label) Global) Global → Bool
answers_in property layer = layer_shows (is_answer_at property.ends.now property.held.now property.builds property.question) (vec_items layer)

pub returns-then-layer_shows : goal.returns-then-layer_shows
returns-then-layer_shows c =
    let property = c.args.property.now in
    sym (position_found (answers_in property) c.args.layers.now c.loop-depth.depth c.index-layers-depth.result c.loop-depth-test.true c.loop-depth.invariant
    (ap (answers_in property) (sym c.index-layers-depth.is)
    ∙ sym (ap (layer_shows (is_answer_at property.ends.now property.held.now property.builds property.question)) c.deref.ensures.value) ∙ sym c.layer_shows.ensures ∙ c.if-layer_shows.true))

pub loop-depth-preserved : goal.loop-depth-preserved
loop-depth-preserved c =
    let property = c.args.property.now in
    none_more (answers_in property) c.args.layers.now c.loop-depth.depth c.index-layers-depth.result c.loop-depth-test.true c.index-layers-depth.is c.loop-depth.invariant
    (sym (ap (layer_shows (is_answer_at property.ends.now property.held.now property.builds property.question)) c.deref.ensures.value) ∙ sym c.layer_shows.ensures ∙ c.if-layer_shows.false)

pub returns : goal.returns
returns c =
    sym (position_none (answers_in c.args.property.now) c.args.layers.now
    (none_pass (answers_in c.args.property.now) c.args.layers.now c.loop-depth.depth c.loop-depth-test.false c.loop-depth.invariant))
