use Rattle.std.proofs.Common.{List, Vec, Global, Some, map, ap, sym, ◌∙◌}
use Rattle.std.specs.Prelude.{option_map}
use Rattle.schedule_graph.specs.First.{path_numbers_in}
use Rattle.plan_states.specs.Tallies.{tally_by_counts}
use Rattle.plan_states.specs.declared.edges.Label.{Label}
use Rattle.plan_states.proofs.outcomes.tally_from.Goals as goal

pub returns : goal.returns
returns g c =
    let first = c.in_ok-first.ensures ∙ ap (λ (labels : List Label). map (λ label. label.build) labels) c.deref.ensures.value in
    (λ i. Some (record { outcome = c.args.outcome; count = c.in_ok-count.ensures i; first = first i }))
    ∙ sym (ap (option_map (λ (labels : Vec Label Global). tally_by_counts c.args.outcome (path_numbers_in c.args.counts.now) labels.items)) c.in-Some.is)
