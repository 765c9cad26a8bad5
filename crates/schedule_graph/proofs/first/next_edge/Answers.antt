use Rattle.std.proofs.Common.{sym, ◌∙◌, arith}
use Rattle.schedule_graph.specs.First.{goes_on}
use Rattle.schedule_graph.proofs.Firsts.{find_at, find_past}
use Rattle.schedule_graph.proofs.first.next_edge.Goals as goal

pub returns-then-goes_on : goal.returns-then-goes_on
returns-then-goes_on g c =
    find_at (goes_on (g.S.LabelProperty.holds_for c.args.property.now) c.args.shown c.args.with_it.now c.args.without_it.now) c.args.edges.now c.loop-edge.edge-index c.edge-item.result
    c.loop-edge.invariant (omega (arith, c.loop-edge-test.true)) c.edge-item.is (sym c.goes_on.ensures ∙ c.if-goes_on.true)

pub loop-edge-preserved : goal.loop-edge-preserved
loop-edge-preserved g c =
    find_past (goes_on (g.S.LabelProperty.holds_for c.args.property.now) c.args.shown c.args.with_it.now c.args.without_it.now) c.args.edges.now c.loop-edge.edge-index c.edge-item.result
    c.loop-edge.invariant (omega (arith, c.loop-edge-test.true)) c.edge-item.is (sym c.goes_on.ensures ∙ c.if-goes_on.false)
