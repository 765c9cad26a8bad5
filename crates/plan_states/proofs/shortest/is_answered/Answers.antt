use Rattle.std.proofs.Common.{Vec, Global, vec_items, ap, ◌∙◌}
use Rattle.std.specs.Prelude.{is_some}
use Rattle.schedule_graph.specs.declared.graph.Edge.{Edge}
use Rattle.plan_states.specs.Shortest.{is_answer_in, layer_shows}
use Rattle.plan_states.specs.declared.edges.Label.{Label}
use Rattle.plan_states.proofs.Positions.{position_any}
use Rattle.plan_states.proofs.shortest.is_answered.Goals as goal

pub returns : goal.returns
returns c = c.is_some.ensures ∙ ap is_some c.first_answered.ensures
    ∙ position_any (λ (layer : Vec (Vec (Edge Label) Global) Global). layer_shows (is_answer_in c.args.graph.now c.args.builds c.args.question) (vec_items layer)) c.args.graph.now.layers.items
