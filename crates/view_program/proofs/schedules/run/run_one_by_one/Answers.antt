use Rattle.std.proofs.Common.{replicate, ap}
use Rattle.std.proofs.lemmas.Result.{on_ok_weaker}
use Rattle.realm_plan.specs.PlanView.{plan_view}
use Rattle.view_program.specs.Chosen.{stage_at}
use Rattle.view_program.proofs.GoingOn.{IsChosenRun-lowest}
use Rattle.view_program.proofs.schedules.run.run_one_by_one.Goals as goal

pub returns : goal.returns
returns g c =
    on_ok_weaker c.go_on.result
    (IsChosenRun-lowest (plan_view c.args.plan.now) c.args.host.now (replicate 8 c.first-places.result) c.clear-2.new.self.items c.clear.new.self.items
    c.go_on.new.choices.items (stage_at c.go_on.new.host c.go_on.new.places c.go_on.new.ends.items)
    (ap (replicate 8) c.first-places.ensures) c.clear-2.ensures.items c.clear.ensures.items)
    c.go_on.ensures
