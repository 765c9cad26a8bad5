use Rattle.std.proofs.Common.{◌++◌, get_or, take, string_bytes, ap, sym, ◌∙◌, append_assoc}
use Rattle.view_program.specs.OrderText.{turn_in_lines, turns_in_lines}
use Rattle.view_program.proofs.OrderTexts.{turns_in_lines_more}
use Rattle.view_program.proofs.order_text.push_lines.Goals as goal

pub loop-place-preserved : goal.loop-place-preserved
loop-place-preserved c =
    let order = c.args.order.now in
    let place = c.loop-place.place in
    let old = string_bytes c.args.text.now in
    c.in_ok-push_in_lines.ensures
    ∙ ap (λ text. text ++ turn_in_lines place (get_or order place 0)) c.loop-place.invariant
    ∙ append_assoc old (turns_in_lines 0 (take place order)) (turn_in_lines place (get_or order place 0))
    ∙ ap (λ rest. old ++ rest) (sym (turns_in_lines_more order place c.loop-place-test.true))
