use Rattle.std.proofs.Common.{◌≤◌, [], ◌∷◌, ◌++◌, vec_len, refl, sym, subst, ◌∙◌}
use Rattle.realm_plan.specs.PlanView.{plan_view}
use Rattle.plan_states.specs.Questions.{is_answer}
use Rattle.plan_states.specs.RunLog.{position_of}
use Rattle.plan_states.proofs.Answered.{answered_by, unanswered_by}
use Rattle.plan_states.proofs.Builds.{builds_are}
use Rattle.plan_states.proofs.shortest.answers_next.Goals as goal

pub returns-clause-yes : goal.returns-clause-yes
returns-clause-yes c = λ before reached yes.
    answered_by (plan_view c.args.plan.now) c.args.question (before ++ c.args.build ∷ []) before c.args.build (position_of c.args.running.now)
    (record { host = c.take.new.host; places = c.take.new.places }) c.in-Some.taken refl reached c.in-Some.ensures.taken
    ((λ i. is_answer (sym (builds_are c.args.plan.now c.len.result c.len.ensures) i) c.args.question (sym c.end_of-end.ensures i) (sym c.pages_of_builds-held.ensures i))
    ∙ sym c.is_answer.ensures ∙ yes)

pub returns-clause-no : goal.returns-clause-no
returns-clause-no c = λ before reached no.
    unanswered_by (plan_view c.args.plan.now) c.args.question (before ++ c.args.build ∷ []) before c.args.build (position_of c.args.running.now)
    (record { host = c.take.new.host; places = c.take.new.places }) c.in-Some.taken refl reached c.in-Some.ensures.taken
    (subst (λ n. n ≤ 8) (builds_are c.args.plan.now (vec_len c.args.plan.now.builds) refl) c.args.plan.now.builds_in_limits.1)
    ((λ i. is_answer (sym (builds_are c.args.plan.now c.len.result c.len.ensures) i) c.args.question (sym c.end_of-end.ensures i) (sym c.pages_of_builds-held.ensures i))
    ∙ sym c.is_answer.ensures ∙ no)
