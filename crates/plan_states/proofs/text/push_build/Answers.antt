use Rattle.std.proofs.Common.{string_bytes, refl}
use Rattle.realm_plan.specs.PlanView.{plan_view}
use Rattle.plan_replay.proofs.MapLines.{lines_more}
use Rattle.plan_states.specs.Lines.{ends_of_step}
use Rattle.plan_states.proofs.text.push_build.Goals as goal

pub loop-place-preserved : goal.loop-place-preserved
loop-place-preserved c =
    lines_more (ends_of_step (plan_view c.args.plan.now) c.args.outcomes.now c.args.build) c.loop-place.place (string_bytes c.args.text.now) (string_bytes c.loop-place.text)
    (ends_of_step (plan_view c.args.plan.now) c.args.outcomes.now c.args.build c.loop-place.place) (string_bytes c.push_step.new.text)
    c.loop-place.invariant c.in_ok-push_step.ensures refl
