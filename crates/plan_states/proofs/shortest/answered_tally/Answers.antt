use Rattle.std.proofs.Common.{sym, ◌∙◌}
use Rattle.std.proofs.lemmas.Result.{IfOk-weaker}
use Rattle.schedule_graph.specs.First.{layers_in}
use Rattle.schedule_graph.specs.Paths.{paths, shows}
use Rattle.plan_states.specs.Questions.{is_answer_at}
use Rattle.plan_states.specs.Tallies.{tally_of}
use Rattle.plan_states.proofs.Tallies.{numbers-same}
use Rattle.plan_states.proofs.shortest.answered_tally.Goals as goal

pub returns : goal.returns
returns c =
    let are = numbers-same c.deref-3.result.now c.deref-4.result.now c.in_ok-all.all.items c.deref-5.result.now
    (c.deref-3.ensures.value ∙ sym c.deref-4.ensures.value) c.deref-5.ensures.value c.in_ok-all.ensures in
    IfOk-weaker c.tally_with.result _ _ (λ tally counts. counts are
    ∙ (λ i. tally_of (shows (is_answer_at (c.deref.ensures.value i) (c.deref-2.ensures.value i) c.args.builds c.args.question)) c.args.question (paths (layers_in (c.deref-4.ensures.value i)) 0))) c.tally_with.ensures
