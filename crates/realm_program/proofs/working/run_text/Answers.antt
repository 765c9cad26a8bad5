use Rattle.realm_plan.specs.PlanView.{plan_view}
use Rattle.realm_program.proofs.Orders.{schedule_is_not_revealed}
use Rattle.realm_program.proofs.working.run_text.Goals as goal

pub returns-clause-order : goal.returns-clause-order
returns-clause-order g c = schedule_is_not_revealed (plan_view c.args.plan.now) (g.G.Gate.passes c.args.gate.now) (g.G.Gate.stops c.args.gate.now) c.args.host
