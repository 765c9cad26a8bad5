use Rattle.std.proofs.Common.{◌∙◌, sym, refl}
use Rattle.realm_plan.specs.PlanView.{plan_view}
use Rattle.view_program.specs.Chosen.{stage_at}
use Rattle.view_program.proofs.Chosen.{could_is}
use Rattle.view_program.proofs.Rotating.{rotation_could, IsRotating-none, IsRotating-more, IsRotatedTo-whole}
use Rattle.view_program.proofs.schedules.rotation.go_on_in_rotation.Goals as goal

pub take_step-requires-clause-left : goal.take_step-requires-clause-left
take_step-requires-clause-left g c =
    could_is (plan_view c.args.plan.now) c.loop-build.places c.loop-build.left c.in-Some.build c.loop-build.invariant.1
    (rotation_could c.loop-build.from c.loop-build.left c.in-Some.build (sym c.in_rotation.ensures ∙ c.in-Some.is))

pub loop-build-init : goal.loop-build-init
loop-build-init g c = (
  c.requires.steady,
  c.builds_left-left.ensures,
  IsRotating-none (plan_view c.args.plan.now)
      (stage_at c.args.host.now c.args.places.now c.args.ends.now.items) c.args.choices.now.items c.requires.none,
)

pub loop-build-preserved : goal.loop-build-preserved
loop-build-preserved g c = (
  c.take_step.ensures.steady,
  c.builds_left-left-in-Some.ensures,
  IsRotating-more (plan_view c.args.plan.now)
      (stage_at c.args.host.now c.args.places.now c.args.ends.now.items) c.loop-build.choices.items
      (stage_at c.loop-build.host c.loop-build.places c.loop-build.ends.items) (record { build = c.in-Some.build; left = c.loop-build.left })
      (stage_at c.take_step.new.host c.take_step.new.places c.take_step.new.ends.items) c.push.new.self.items
      c.loop-build.from _ c.loop-build.invariant.2 c.loop-build.invariant.1
      (sym c.in_rotation.ensures ∙ c.in-Some.is) c.in_ok-take_step.ensures.step c.in_ok-push.ensures.items refl,
)

pub returns : goal.returns
returns g c =
    IsRotatedTo-whole (plan_view c.args.plan.now)
    (stage_at c.args.host.now c.args.places.now c.args.ends.now.items)
    c.loop-build.choices.items (stage_at c.loop-build.host c.loop-build.places c.loop-build.ends.items)
    c.loop-build.from c.loop-build.left c.loop-build.invariant.2 c.loop-build.invariant.1
    (sym c.in_rotation.ensures ∙ c.in_default.is)
