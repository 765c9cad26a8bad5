use Rattle.std.proofs.Common.{ℕ, List, Vec, Global, ap, sym, subst, ◌∙◌}
use Rattle.std.specs.Prelude.{option_map}
use Rattle.std.proofs.lemmas.Result.{IfOk-weaker}
use Rattle.schedule_graph.specs.First.{ArePathNumbers, layers_in, path_numbers_in}
use Rattle.schedule_graph.specs.Paths.{shows}
use Rattle.plan_states.specs.Tallies.{tally_by_counts}
use Rattle.plan_states.specs.declared.edges.Label.{Label}
use Rattle.plan_states.proofs.Tallies.{tally-of_first}
use Rattle.plan_states.proofs.outcomes.tally_with.Goals as goal

pub returns : goal.returns
returns g c =
    let like = shows (g.S.LabelProperty.holds_for c.args.property.now) in
    let layers = layers_in c.args.layers.now in
    let counts = c.in_ok-with.with.items in
    IfOk-weaker c.tally_from.result _ _ (λ tally is are. is
    ∙ ap (λ (ns : List (Vec ℕ Global)). option_map (λ (labels : Vec Label Global). tally_by_counts c.args.outcome (path_numbers_in ns) labels.items) c.in_ok-path.path) c.deref-2.ensures.value
    ∙ tally-of_first like c.args.outcome layers (path_numbers_in counts) c.in_ok-path.path (c.in_ok-with.ensures are)
    (c.in_ok-path.ensures are (subst (λ (ns : List (Vec ℕ Global)). ArePathNumbers like layers (path_numbers_in ns)) (sym c.deref.ensures.value) (c.in_ok-with.ensures are)))) c.tally_from.ensures
