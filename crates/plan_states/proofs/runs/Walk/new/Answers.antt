use Rattle.plan_states.proofs.runs.Walk.new.Goals as goal

pub loop-layer-init : goal.loop-layer-init
loop-layer-init c = c.in_ok-log.ensures.ok c.args.graph.now.ends.items c.args.graph.now.held.items c.args.graph.now.maps.items
