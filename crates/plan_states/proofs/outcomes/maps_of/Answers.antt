use Rattle.std.proofs.Common.{sym, ◌∙◌}
use Rattle.plan_states.specs.Tallies.{map_tally, with_tally}
use Rattle.plan_states.proofs.Tallies.{added_more}
use Rattle.plan_states.proofs.outcomes.maps_of.Goals as goal

pub loop-map-preserved : goal.loop-map-preserved
loop-map-preserved c = λ are.
    c.in_ok-add.ensures ∙ (λ i. with_tally (c.in_ok-tally.ensures are i) (c.loop-map.invariant are i)) ∙ sym (added_more (map_tally c.args.graph.now) c.loop-map.map)
