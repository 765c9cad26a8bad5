use Rattle.std.proofs.Common.{None, string_bytes, subst}
use Rattle.std.proofs.lemmas.Result.{on_ok_weaker}
use Rattle.realm_plan.specs.PlanView.{plan_view}
use Rattle.plan_replay.specs.Run.{Position, IsTurn}
use Rattle.view_program.proofs.CallsBelow.{idle_turn}
use Rattle.view_program.proofs.plan_calls.CallsText.push_turn.Goals as goal

pub returns-in-None-clause-turn : goal.returns-in-None-clause-turn
returns-in-None-clause-turn c =
    let from : Position = record { host = c.args.host.now; places = c.args.places.now } in
    let to : Position = record { host = c.take_turn.new.host; places = c.take_turn.new.places } in
    on_ok_weaker c.push_idle.result (λ ended.
    idle_turn c.args.self.now.form c.args.self.now.frame (plan_view c.args.plan.now) c.args.self.now.runs from c.args.build to
    (string_bytes c.args.self.now.text) (string_bytes c.begin_comment.new.text) (string_bytes c.push_idle.new.text)
    (subst (λ build. IsTurn (plan_view c.args.plan.now) from (record { build = build; told = None }) to) c.number.ensures.value c.in-None.ensures)
    c.in_ok-begin_comment.ensures ended)
    c.push_idle.ensures
