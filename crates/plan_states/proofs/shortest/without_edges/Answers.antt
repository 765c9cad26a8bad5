use Rattle.std.proofs.Common.{List, [], Vec, Global}
use Rattle.schedule_graph.specs.declared.graph.Edge.{Edge}
use Rattle.plan_states.specs.declared.edges.Label.{Label}
use Rattle.plan_states.proofs.Cuts.{bare_more}
use Rattle.plan_states.proofs.Loops.{map_whole}
use Rattle.plan_states.proofs.shortest.without_edges.Goals as goal

pub loop-edges-preserved : goal.loop-edges-preserved
loop-edges-preserved c =
    bare_more c.args.layer.now c.loop-edges._edges-index c.loop-edges.bare.items c.push.new.items.items c.new.result
    c.loop-edges-test.true c.new.ensures.items c.in_ok-push.ensures c.loop-edges.invariant

pub returns : goal.returns
returns c =
    let f : Vec (Edge Label) Global → List (Edge Label) = λ edges. [] in
    map_whole f c.args.layer.now c.loop-edges._edges-index _ c.loop-edges-test.false c.loop-edges.invariant
