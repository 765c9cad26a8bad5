use Rattle.std.proofs.Common.{◌≡◌, List, true, false, map, Vec, Global, None, sym, subst, ◌∙◌}
use Rattle.std.specs.Prelude.{option_map}
use Rattle.schedule_graph.specs.First.{ArePathNumbers, any_path, layers_in, path_numbers_in, shows_none}
use Rattle.schedule_graph.specs.Paths.{paths, shows}
use Rattle.schedule_graph.specs.declared.graph.Edge.{Edge}
use Rattle.plan_states.specs.LabelProperties.{is_refusal_of}
use Rattle.plan_states.specs.Tallies.{with_tally, count_of_tally, tally_of, paths_of}
use Rattle.plan_states.specs.declared.edges.Label.{Label}
use Rattle.plan_states.proofs.outcomes.tallies_by_refusal.Goals as goal

pub returns : goal.returns
returns c = λ are.
    let graph = c.args.graph.now in
    let ends : c.deref.result.now ≡ graph.ends.items = c.deref.ensures.value in
    let never_refused : option_map count_of_tally c.in_ok-never_refused.never_refused ≡ tally_of (shows_none (is_refusal_of graph.ends.items None)) false (paths_of graph) =
    c.in_ok-never_refused.ensures ∙ (λ i. tally_of (shows_none (is_refusal_of (ends i) None)) false (paths (layers_in (c.deref-2.ensures.value i)) 0)) in
    let refused : option_map count_of_tally c.in_ok-refused.refused ≡ tally_of (shows (is_refusal_of graph.ends.items None)) true (paths_of graph) =
    c.in_ok-refused.ensures (subst (λ (ls : List (Vec (Vec (Edge Label) Global) Global)). ArePathNumbers any_path (layers_in ls) (path_numbers_in c.args.all.now)) (sym c.deref-3.ensures.value) are)
    ∙ (λ i. tally_of (shows (is_refusal_of (ends i) None)) true (paths (layers_in (c.deref-3.ensures.value i)) 0)) in
    c.in_ok-add-2.ensures
    ∙ (λ i. with_tally (refused i) ((c.in_ok-add.ensures ∙ (λ j. with_tally (never_refused j) (map count_of_tally (c.new-by_refusal.ensures.items j)))) i))
