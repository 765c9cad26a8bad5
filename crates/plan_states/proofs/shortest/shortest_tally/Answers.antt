use Rattle.std.proofs.Common.{List, ap, sym, ◌∙◌}
use Rattle.std.proofs.lemmas.Result.{IfOk-weaker}
use Rattle.schedule_graph.specs.Paths.{Layer, paths, shows}
use Rattle.plan_states.specs.Shortest.{is_answer_in, tally_in}
use Rattle.plan_states.specs.Tallies.{layers_of, tally_of}
use Rattle.plan_states.specs.declared.edges.Label.{Label}
use Rattle.plan_states.proofs.shortest.shortest_tally.Goals as goal

pub returns-in_default : goal.returns-in_default
returns-in_default c =
    let is = is_answer_in c.args.graph c.args.builds c.args.question in
    sym (ap (tally_in is c.args.question (layers_of c.args.graph)) (sym c.first_answered.ensures ∙ c.in_default.is))

pub returns : goal.returns
returns c =
    let is = is_answer_in c.args.graph c.args.builds c.args.question in
    IfOk-weaker c.answered_tally.result _ _ (λ tally counts. counts
    ∙ ap (λ (ls : List (Layer Label)). tally_of (shows is) c.args.question (paths ls 0)) c.in_ok-cut_after.ensures
    ∙ sym (ap (tally_in is c.args.question (layers_of c.args.graph)) (sym c.first_answered.ensures ∙ c.in-Some.is))) c.answered_tally.ensures
