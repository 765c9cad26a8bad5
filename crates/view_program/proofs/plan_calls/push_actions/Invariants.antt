use Rattle.std.proofs.Common.{◌≡◌, ◌++◌, string_bytes, take}
use Rattle.std.specs.List.{flat_map}
use Rattle.command_line.specs.declared.realmview.CallsForm.TheVariants.{Trace}
use Rattle.history_calls.specs.Lines.{action_line}
use Rattle.view_program.proofs.plan_calls.push_actions.Given as goal

abbrev pub invariant-loop-action : goal.invariant-loop-action
invariant-loop-action l = l.form ≡ Trace → string_bytes l.text ≡ string_bytes l.fn.text ++ flat_map (λ action. action_line action l.refusal) (take l.action-index l.actions)
