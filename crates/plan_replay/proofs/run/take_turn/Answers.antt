use Rattle.std.proofs.Common.{◌≤◌, subst, sym}
use Rattle.realm_plan.specs.Asked.{asked}
use Rattle.plan_replay.specs.Place.{giving_up}
use Rattle.plan_replay.proofs.Turns.{same_done}
use Rattle.plan_replay.proofs.run.take_turn.Goals as goal

pub move_on-requires : goal.move_on-requires
move_on-requires g c =
    subst (λ done. done ≤ giving_up)
    (sym (same_done c.args.host.now c.at.result _ (asked c.in_ok-step.step.now) c.plan_turn-answer.result c.plan_turn-answer.new.host c.plan_turn-answer.new.place c.plan_turn-answer.ensures))
    c.in_ok-step.ensures.few
