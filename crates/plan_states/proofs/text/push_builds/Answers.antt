use Rattle.std.proofs.Common.{string_bytes, refl}
use Rattle.realm_plan.specs.PlanView.{plan_view}
use Rattle.plan_replay.proofs.MapLines.{lines_more}
use Rattle.plan_states.specs.Lines.{ends_of_build}
use Rattle.plan_states.proofs.text.push_builds.Goals as goal

pub loop-build-preserved : goal.loop-build-preserved
loop-build-preserved c =
    lines_more (ends_of_build (plan_view c.args.plan.now) c.args.outcomes.now) c.loop-build.build (string_bytes c.args.text.now) (string_bytes c.loop-build.text)
    (ends_of_build (plan_view c.args.plan.now) c.args.outcomes.now c.loop-build.build) (string_bytes c.push_build.new.text)
    c.loop-build.invariant c.in_ok-push_build.ensures refl
