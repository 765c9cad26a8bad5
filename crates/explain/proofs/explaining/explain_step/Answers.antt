use Rattle.std.proofs.Common.{◌≤◌, sym, subst}
use Rattle.realm_plan.specs.Asked.{asked}
use Rattle.plan_replay.specs.Place.{giving_up}
use Rattle.plan_replay.proofs.Turns.{same_done}
use Rattle.explain.proofs.explaining.explain_step.Goals as goal

pub move_on-requires : goal.move_on-requires
move_on-requires g c =
    subst (λ done. done ≤ giving_up)
    (sym (same_done c.args.host.now c.args.build c.args.place.now (asked c.args.step.now) c.plan_turn-answer.result c.plan_turn-answer.new.host c.plan_turn-answer.new.place c.plan_turn-answer.ensures))
    c.requires
