use Rattle.std.proofs.Common.{◌^◌, ◌<◌, subst}
use Rattle.std.specs.Prelude.{option_map}
use Rattle.realm_plan.specs.PlanView.{plan_view}
use Rattle.plan_replay.specs.declared.place.PlanCursor.{PlanCursor}
use Rattle.view_program.specs.TurnsLeft.{AreSteady, turns_left}
use Rattle.view_program.proofs.TurnsLeft.{steady_after, fewer_after}
use Rattle.view_program.proofs.schedules.run.take_step.Goals as goal
use Rattle.view_program.proofs.schedules.run.take_step.Goals.{After-place_at-after}
use Rattle.view_program.proofs.schedules.run.take_step.Given.{Over}

module _ (g : Over) (c : After-place_at-after g) where
  steady : AreSteady (plan_view c.args.plan.now) c.take_turn.new.places
  steady =
      steady_after (plan_view c.args.plan.now) (record { host = c.args.host.now; places = c.args.places.now })
      (record { build = c.args.build; told = option_map (λ told. (told.0.now, told.1)) c.take_turn.result })
      (record { host = c.take_turn.new.host; places = c.take_turn.new.places }) c.requires.steady c.requires.left.0 c.take_turn.ensures

  fewer : turns_left c.args.plan.now.gives_up (plan_view c.args.plan.now).builds c.take_turn.new.places < turns_left c.args.plan.now.gives_up (plan_view c.args.plan.now).builds c.args.places.now
  fewer =
      fewer_after (plan_view c.args.plan.now) (record { host = c.args.host.now; places = c.args.places.now })
      (record { build = c.args.build; told = option_map (λ told. (told.0.now, told.1)) c.take_turn.result })
      (record { host = c.take_turn.new.host; places = c.take_turn.new.places }) c.requires.steady c.requires.left.0 c.requires.left.1
      (subst (λ (p : PlanCursor). p.left < 2 ^ 16) c.place_at-after.ensures.value c.place_at-after.ensures.fits) c.take_turn.ensures

pub returns-in_err-push-clause-steady : goal.returns-in_err-push-clause-steady
returns-in_err-push-clause-steady g c = steady g (goal.at.returns-in_err-push-clause-steady g c).After-place_at-after

pub returns-in_err-push-clause-fewer : goal.returns-in_err-push-clause-fewer
returns-in_err-push-clause-fewer g c = fewer g (goal.at.returns-in_err-push-clause-fewer g c).After-place_at-after

pub returns-in_ok-push-clause-steady : goal.returns-in_ok-push-clause-steady
returns-in_ok-push-clause-steady g c = steady g (goal.at.returns-in_ok-push-clause-steady g c).After-place_at-after

pub returns-in_ok-push-clause-fewer : goal.returns-in_ok-push-clause-fewer
returns-in_ok-push-clause-fewer g c = fewer g (goal.at.returns-in_ok-push-clause-fewer g c).After-place_at-after

pub returns-else-after-before-clause-steady : goal.returns-else-after-before-clause-steady
returns-else-after-before-clause-steady g c = steady g (goal.at.returns-else-after-before-clause-steady g c).After-place_at-after

pub returns-else-after-before-clause-fewer : goal.returns-else-after-before-clause-fewer
returns-else-after-before-clause-fewer g c = fewer g (goal.at.returns-else-after-before-clause-fewer g c).After-place_at-after
