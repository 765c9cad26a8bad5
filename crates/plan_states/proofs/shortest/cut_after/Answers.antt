use Rattle.std.proofs.Common.{◌+◌, List, [], map, Vec, Global, vec_items, ap, ◌∙◌}
use Rattle.std.specs.Prelude.{slice_index_or}
use Rattle.std.proofs.lemmas.Result.{on_ok_weaker}
use Rattle.schedule_graph.specs.declared.graph.Edge.{Edge}
use Rattle.plan_states.specs.declared.edges.Label.{Label}
use Rattle.plan_states.proofs.Cuts.{cut_is}
use Rattle.plan_states.proofs.shortest.cut_after.Goals as goal

pub returns : goal.returns
returns c =
    let f : Vec (Edge Label) Global → List (Edge Label) = λ edges. [] in
    on_ok_weaker c.push.result (λ more. cut_is c.args.layers.now.items c.truncate.new.self.items c.push.new.items.items c.args.depth c.in_ok-states.states
    c.truncate.ensures.items more
    (c.in_ok-states.ensures ∙ ap (map f) (c.list_at.ensures
    ∙ ap (λ (ls : List (Vec (Vec (Edge Label) Global) Global)). slice_index_or (map vec_items ls) (c.args.depth + 1) []) c.deref.ensures.value))) c.push.ensures
