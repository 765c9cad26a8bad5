use Rattle.std.proofs.Common.{◌++◌, Some, string_bytes, ◌∙◌}
use Rattle.std.proofs.lemmas.Result.{on_ok_weaker}
use Rattle.view_program.proofs.CallsBelow.{if_ok, turn_and_calls}
use Rattle.view_program.proofs.plan_calls.CallsText.push_answered.Goals as goal

pub returns-clause-turn : goal.returns-clause-turn
returns-clause-turn c =
    on_ok_weaker c.push_str.result (λ bytes.
    turn_and_calls c.args.self.now.frame c.args.self.now.runs c.push_below.new.self.runs c.args.host.now c.args.self.now.form c.args.before
    (record { build = c.args.build; told = Some (c.args.step.now, c.args.answer) })
    (string_bytes c.args.self.now.text) (string_bytes c.push_turn.new.text) (string_bytes c.new-below.result) (string_bytes c.push_below.new.below)
    (string_bytes c.push_str.new.self) c.new-below.ensures.bytes c.in_ok-push_turn.ensures
    (bytes ∙ (λ i. string_bytes (c.in_ok-push_below.ensures.text i) ++ c.as_str.ensures.value i))
    c.in_ok-push_below.ensures.event c.in_ok-push_below.ensures.below c.in_ok-push_below.ensures.pages)
    (if_ok c.push_str.result _ _ _ c.push_str.ensures.bytes)
