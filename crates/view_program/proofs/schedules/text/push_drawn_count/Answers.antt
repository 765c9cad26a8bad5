use Rattle.std.proofs.Common.{[], ◌∷◌, ◌++◌, codes, string_bytes}
use Rattle.std.proofs.lemmas.Result.{on_ok_weaker}
use Rattle.schedule_graph.specs.Number.{numeral}
use Rattle.plan_states.proofs.Joined.{joined}
use Rattle.view_program.proofs.CallsBelow.{if_ok}
use Rattle.view_program.proofs.schedules.text.push_drawn_count.Goals as goal

pub returns : goal.returns
returns c =
    let number = numeral c.args.schedule_count.now in
    let one = string_bytes c.push_str.new.self in
    let two = string_bytes c.push_to.new.text in
    let three = string_bytes c.push_str-2.new.self in
    on_ok_weaker c.push_str-2.result (λ ended.
    joined (string_bytes c.args.text.now) (codes "schedules drawn ") (number ++ 10 ∷ []) one three c.in_ok-push_str.ensures.bytes
    (joined one number (10 ∷ []) two three c.in_ok-push_to.ensures ended))
    (if_ok c.push_str-2.result _ _ _ c.push_str-2.ensures.bytes)
