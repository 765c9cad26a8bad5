use Rattle.std.proofs.Common.{refl, sym, ap, ◌∙◌}
use Rattle.std.proofs.lemmas.Option.{slice_get_past}
use Rattle.plan_states.specs.Questions.{end_numbered, is_answer, is_answer_with}
use Rattle.plan_states.proofs.RunLogs.{seen_at_place}
use Rattle.plan_states.proofs.question.AnswersQuestionLabelPropertyLabel.holds_for.Goals as goal

pub returns-in-Some : goal.returns-in-Some
returns-in-Some c =
    let it = c.args.self.now in
    let label = c.args.label.now in
    let there = seen_at_place it.held.now it.held.now label.held c.in-Some.held.now refl c.in-Some.ensures.lookup.3.0 c.in-Some.ensures.lookup.1 in
    c.is_answer.ensures ∙ ap (λ end. is_answer it.builds it.question end c.in-Some.held.now) c.end_numbered-end.ensures
    ∙ sym (ap (is_answer_with it.builds it.question (end_numbered it.ends.now label.end)) there)

pub returns-in-None : goal.returns-in-None
returns-in-None c =
    let it = c.args.self.now in
    let label = c.args.label.now in
    sym (ap (is_answer_with it.builds it.question (end_numbered it.ends.now label.end)) (slice_get_past it.held.now label.held c.in-None.ensures.lookup.3))
