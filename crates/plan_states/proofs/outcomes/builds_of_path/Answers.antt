use Rattle.plan_states.specs.declared.edges.Label.{Label}
use Rattle.plan_states.proofs.Loops.{map_next, map_whole}
use Rattle.plan_states.proofs.outcomes.builds_of_path.Goals as goal

pub loop-label-preserved : goal.loop-label-preserved
loop-label-preserved c =
    map_next (λ (label : Label). label.build) c.args.path.now c.loop-label.label-index _ c.loop-label.builds.items c.push.new.items.items
    c.loop-label-test.true c.loop-label.invariant c.in_ok-push.ensures

pub returns : goal.returns
returns c = map_whole (λ (label : Label). label.build) c.args.path.now c.loop-label.label-index _ c.loop-label-test.false c.loop-label.invariant
