use Rattle.std.proofs.Common.{subst}
use Rattle.std.specs.Prelude.{option_map}
use Rattle.std.proofs.lemmas.List.{take_all}
use Rattle.realm_plan.specs.PlanView.{plan_view}
use Rattle.plan_states.specs.Reached.{IsReached}
use Rattle.plan_states.proofs.Reached.{reached_more}
use Rattle.plan_states.proofs.running.follow.Goals as goal

pub loop-build-preserved : goal.loop-build-preserved
loop-build-preserved c =
    reached_more (plan_view c.args.plan.now) c.args.schedule.now c.loop-build.build-index (record { host = c.loop-build.host; places = c.loop-build.places })
    (record { host = c.take_turn.new.host; places = c.take_turn.new.places })
    (option_map (λ told. (told.0.now, told.1)) c.take_turn.result) c.loop-build-test.true c.loop-build.invariant c.take_turn.ensures

pub returns-clause-ok : goal.returns-clause-ok
returns-clause-ok c =
    subst (λ o. IsReached (plan_view c.args.plan.now) o (record { host = c.loop-build.host; places = c.loop-build.places }))
    (take_all c.loop-build.build-index c.args.schedule.now c.loop-build-test.false) c.loop-build.invariant
