use Rattle.std.proofs.Common.{◌≡◌, List, Vec, Global, Option, Some, None, IfOk, ap, sym, subst, ◌∙◌}
use Rattle.std.specs.Prelude.{option_map, slice_get}
use Rattle.std.proofs.lemmas.Option.{slice_get-get_or, slice_get_past}
use Rattle.schedule_graph.specs.First.{ArePathNumbers, any_path, layers_in, path_numbers_in}
use Rattle.schedule_graph.specs.Paths.{paths, shows}
use Rattle.schedule_graph.specs.declared.graph.Edge.{Edge}
use Rattle.plan_states.specs.LabelProperties.{has_number}
use Rattle.plan_states.specs.Tallies.{layers_of, count_of_tally, tally_of, tally_of_end}
use Rattle.plan_states.specs.declared.edges.Label.{Label}
use Rattle.plan_states.specs.declared.step_end.EndOfStep.{EndOfStep}
use Rattle.plan_states.proofs.outcomes.end_tally.Goals as goal

pub returns-in-Some : goal.returns-in-Some
returns-in-Some c =
    let graph = c.args.graph.now in
    let number = c.args.number in
    let end = c.in-Some.end.now in
    let found = c.in-Some.ensures.lookup in
    let there : slice_get graph.ends.items number ≡ Some end =
    ap (λ (ends : List EndOfStep). slice_get ends number) (sym c.deref.ensures.value) ∙ slice_get-get_or c.deref.result.now number end found.3.0 ∙ ap Some (sym found.1) in
    subst (λ (o : Option EndOfStep). IfOk c.tally_with.result (λ tally. ArePathNumbers any_path (layers_of graph) (path_numbers_in c.args.all.now) → option_map count_of_tally tally ≡ tally_of_end graph number o))
    (sym there)
    (subst (λ (ls : List (Vec (Vec (Edge Label) Global) Global)). IfOk c.tally_with.result (λ tally. ArePathNumbers any_path (layers_in ls) (path_numbers_in c.args.all.now)
    → option_map count_of_tally tally ≡ tally_of (shows (λ label. has_number number label.end)) end (paths (layers_in ls) 0)))
    c.deref-in-Some.ensures.value c.tally_with.ensures)

pub returns-in-None : goal.returns-in-None
returns-in-None c = λ are.
    let graph = c.args.graph.now in
    let number = c.args.number in
    let there : slice_get graph.ends.items number ≡ None =
    ap (λ (ends : List EndOfStep). slice_get ends number) (sym c.deref.ensures.value) ∙ slice_get_past c.deref.result.now number c.in-None.ensures.lookup.3 in
    sym (ap (tally_of_end graph number) there)
