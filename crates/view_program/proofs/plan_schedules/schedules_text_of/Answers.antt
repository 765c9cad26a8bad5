use Rattle.std.proofs.Common.{ℕ, Vec, Global, sym, subst}
use Rattle.realm_plan.specs.PlanView.{plan_view}
use Rattle.plan_states.specs.StatesText.{IsStatesText}
use Rattle.view_program.proofs.plan_schedules.schedules_text_of.Goals as goal

pub returns-in_ok-states_text-in-All-clause-ok : goal.returns-in_ok-states_text-in-All-clause-ok
returns-in_ok-states_text-in-All-clause-ok g c =
    rw c.in-All.is
    (subst (λ (bytes : Vec ℕ Global). IsStatesText c.in-All.most (plan_view c.args.plan.now) bytes.items) (sym c.into_bytes.ensures.value) c.in_ok-states_text-in-All.ensures.ok)
