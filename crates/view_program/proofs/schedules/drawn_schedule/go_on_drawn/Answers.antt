use Rattle.std.proofs.Common.{◌∙◌, sym}
use Rattle.realm_plan.specs.PlanView.{plan_view}
use Rattle.view_program.specs.Chosen.{stage_at}
use Rattle.view_program.proofs.Chosen.{could_is}
use Rattle.view_program.proofs.Drawing.{drawn_could, IsDrawing-none, IsDrawing-more, IsDrawnTo-whole}
use Rattle.view_program.proofs.schedules.drawn_schedule.go_on_drawn.Goals as goal

pub take_step-requires-clause-left : goal.take_step-requires-clause-left
take_step-requires-clause-left g c =
    could_is (plan_view c.args.plan.now) c.loop-build.places c.loop-build.left c.in-Some.build c.loop-build.invariant.1
    (drawn_could (g.R.Rng.stream c.loop-build.rng) c.loop-build.left c.in-Some.build (sym c.draw.ensures.value ∙ c.in-Some.is))

pub loop-build-init : goal.loop-build-init
loop-build-init g c = (
  c.requires.steady,
  c.builds_left-left.ensures,
  IsDrawing-none (plan_view c.args.plan.now) (g.R.Rng.stream c.args.rng.now)
      (stage_at c.args.host.now c.args.places.now c.args.ends.now.items) c.args.choices.now.items c.requires.none,
)

pub loop-build-preserved : goal.loop-build-preserved
loop-build-preserved g c = (
  c.take_step.ensures.steady,
  c.builds_left-left-in-Some.ensures,
  IsDrawing-more (plan_view c.args.plan.now) (g.R.Rng.stream c.args.rng.now)
      (stage_at c.args.host.now c.args.places.now c.args.ends.now.items) c.loop-build.choices.items
      (stage_at c.loop-build.host c.loop-build.places c.loop-build.ends.items) (record { build = c.in-Some.build; left = c.loop-build.left })
      (stage_at c.take_step.new.host c.take_step.new.places c.take_step.new.ends.items) c.push.new.self.items
      (g.R.Rng.stream c.loop-build.rng) (g.R.Rng.stream c.draw.new.rng) c.loop-build.invariant.2 c.loop-build.invariant.1
      (sym c.draw.ensures.value ∙ c.in-Some.is) c.in_ok-take_step.ensures.step c.in_ok-push.ensures.items c.in-Some.ensures.used,
)

pub returns : goal.returns
returns g c =
    IsDrawnTo-whole (plan_view c.args.plan.now) (g.R.Rng.stream c.args.rng.now)
    (stage_at c.args.host.now c.args.places.now c.args.ends.now.items)
    c.loop-build.choices.items (stage_at c.loop-build.host c.loop-build.places c.loop-build.ends.items)
    (g.R.Rng.stream c.loop-build.rng) (g.R.Rng.stream c.draw.new.rng) c.loop-build.left c.loop-build.invariant.2 c.loop-build.invariant.1
    (sym c.draw.ensures.value ∙ c.in_default.is) c.in_default.ensures.unused
