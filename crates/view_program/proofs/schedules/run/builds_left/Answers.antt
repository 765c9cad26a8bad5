use Rattle.std.proofs.Common.{false, rules}
use Rattle.std.proofs.lemmas.List.FromFn.{fill_by_all}
use Rattle.realm_plan.specs.PlanView.{plan_view}
use Rattle.view_program.specs.Chosen.{has_left, builds_left}
use Rattle.view_program.proofs.schedules.run.builds_left.Goals as goal

pub returns : goal.returns
unfolding builds_left
returns c = fill_by_all (has_left (plan_view c.args.plan.now) c.args.places.now) c.loop-build.left 8 false c.loop-build.invariant.0 (search rules)
