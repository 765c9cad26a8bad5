use Rattle.std.proofs.Common.{◌||◌, sym, ◌∙◌}
use Rattle.std.proofs.lemmas.List.Folds.{list_any_at, list_any_more}
use Rattle.schedule_graph.specs.declared.graph.Edge.{Edge}
use Rattle.plan_states.specs.Questions.{is_answer_at}
use Rattle.plan_states.specs.declared.edges.Label.{Label}
use Rattle.plan_states.proofs.Loops.{none_pass}
use Rattle.plan_states.proofs.shortest.edges_show.Goals as goal

pub returns-then-holds_for : goal.returns-then-holds_for
returns-then-holds_for c =
    sym (list_any_at (λ (edge : Edge Label). is_answer_at c.args.property.now.ends.now c.args.property.now.held.now c.args.property.now.builds c.args.property.now.question edge.label)
    c.args.edges.now c.loop-edge.edge-index _ c.loop-edge-test.true (sym c.if-holds_for.ensures))

pub loop-edge-preserved : goal.loop-edge-preserved
loop-edge-preserved c =
    list_any_more (λ (edge : Edge Label). is_answer_at c.args.property.now.ends.now c.args.property.now.held.now c.args.property.now.builds c.args.property.now.question edge.label)
    c.args.edges.now c.loop-edge.edge-index _ c.loop-edge-test.true
    ∙ (λ i. c.loop-edge.invariant i || sym c.if-holds_for.ensures i)

pub returns : goal.returns
returns c =
    sym (none_pass (λ (edge : Edge Label). is_answer_at c.args.property.now.ends.now c.args.property.now.held.now c.args.property.now.builds c.args.property.now.question edge.label)
    c.args.edges.now c.loop-edge.edge-index c.loop-edge-test.false c.loop-edge.invariant)
