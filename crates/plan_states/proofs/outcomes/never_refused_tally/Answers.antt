use Rattle.std.proofs.Common.{◌≡◌, List, Vec, Global, Some, IfOk, subst}
use Rattle.std.specs.Prelude.{option_map}
use Rattle.schedule_graph.specs.First.{layers_in, shows_none}
use Rattle.schedule_graph.specs.Paths.{paths}
use Rattle.schedule_graph.specs.declared.graph.Edge.{Edge}
use Rattle.plan_states.specs.LabelProperties.{is_refusal_of}
use Rattle.plan_states.specs.Tallies.{count_of_tally, tally_of, paths_of}
use Rattle.plan_states.specs.declared.edges.Label.{Label}
use Rattle.plan_states.specs.declared.step_end.EndOfStep.{EndOfStep}
use Rattle.plan_states.proofs.outcomes.never_refused_tally.Goals as goal

pub returns : goal.returns
returns c =
    let build = c.args.build in
    subst (λ (ends : List EndOfStep). IfOk c.tally_without.result (λ tally. option_map count_of_tally tally ≡ tally_of (shows_none (is_refusal_of ends (Some build))) build (paths_of c.args.graph.now)))
    c.deref.ensures.value
    (subst (λ (ls : List (Vec (Vec (Edge Label) Global) Global)). IfOk c.tally_without.result (λ tally. option_map count_of_tally tally ≡ tally_of (shows_none (is_refusal_of c.deref.result.now (Some build))) build (paths (layers_in ls) 0)))
    c.deref-2.ensures.value c.tally_without.ensures)
