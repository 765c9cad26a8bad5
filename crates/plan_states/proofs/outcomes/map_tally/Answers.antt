use Rattle.std.proofs.Common.{◌≡◌, List, Vec, Global, IfOk, subst}
use Rattle.std.specs.Prelude.{option_map}
use Rattle.schedule_graph.specs.First.{ArePathNumbers, any_path, layers_in, path_numbers_in}
use Rattle.schedule_graph.specs.Paths.{paths, shows}
use Rattle.schedule_graph.specs.declared.graph.Edge.{Edge}
use Rattle.plan_states.specs.LabelProperties.{has_number}
use Rattle.plan_states.specs.Tallies.{count_of_tally, tally_of}
use Rattle.plan_states.specs.declared.edges.Label.{Label}
use Rattle.plan_states.proofs.outcomes.map_tally.Goals as goal

pub returns : goal.returns
returns c =
    subst (λ (ls : List (Vec (Vec (Edge Label) Global) Global)). IfOk c.tally_with.result (λ tally. ArePathNumbers any_path (layers_in ls) (path_numbers_in c.args.all.now)
    → option_map count_of_tally tally ≡ tally_of (shows (λ label. has_number c.args.map label.map)) c.args.map (paths (layers_in ls) 0)))
    c.deref.ensures.value c.tally_with.ensures
