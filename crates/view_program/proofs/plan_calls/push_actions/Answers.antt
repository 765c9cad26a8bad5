use Rattle.std.proofs.Common.{List, ℕ, ◌++◌, ◌∷◌, [], string_bytes, take, ap, sym, ◌∙◌, append_assoc}
use Rattle.std.specs.List.{flat_map}
use Rattle.std.proofs.lemmas.List.{flat_map_more, take_more}
use Rattle.history_calls.specs.Lines.{action_line}
use Rattle.history_calls.specs.declared.action.HostAction.{HostAction}
use Rattle.view_program.proofs.plan_calls.push_actions.Goals as goal

pub loop-action-preserved : goal.loop-action-preserved
loop-action-preserved c = λ is_trace.
    let actions = c.args.actions.now in
    let i = c.loop-action.action-index in
    let action = c.action-item.result in
    let old = string_bytes c.args.text.now in
    let line : HostAction → List ℕ = λ it. action_line it c.args.refusal in
    c.in_ok-push_in_form.ensures is_trace ∙ ap (λ (t : List ℕ). t ++ line action) (c.loop-action.invariant is_trace)
    ∙ append_assoc old (flat_map line (take i actions)) (line action)
    ∙ ap (λ (t : List ℕ). old ++ t) (flat_map_more line [] (take i actions) action
    ∙ ap (flat_map line) (ap (λ a. take i actions ++ a ∷ []) c.action-item.is ∙ sym (take_more actions i action c.loop-action-test.true)))
