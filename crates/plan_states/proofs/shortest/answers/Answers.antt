use Rattle.std.proofs.Common.{inr, sym, subst}
use Rattle.realm_plan.specs.PlanView.{plan_view}
use Rattle.plan_states.specs.Shortest.{EndsWithAnswer, EndsWithoutAnswer}
use Rattle.plan_states.proofs.shortest.answers.Goals as goal

pub returns-clause-yes : goal.returns-clause-yes
returns-clause-yes c = λ yes.
    subst (EndsWithAnswer (plan_view c.args.plan.now) c.args.question) (sym c.in-Some.ensures.cases.0)
    (c.answers_next.ensures.yes c.in-Some.before.now c.in_ok-running.ensures.ok yes)

pub returns-clause-no : goal.returns-clause-no
returns-clause-no c = λ no.
    inr (subst (EndsWithoutAnswer (plan_view c.args.plan.now) c.args.question) (sym c.in-Some.ensures.cases.0)
    (c.answers_next.ensures.no c.in-Some.before.now c.in_ok-running.ensures.ok no))
