-- The result of preparing a command or an undo on a handle: a status and a list of RMM operations.
use Rattle.std.specs.Prelude.{ℕ, ◌%◌, Option, Some, None, Result, Ok, Err}
use Rattle.arrayvec.specs.ArrayVec.{ArrayVec}
use Rattle.host_commands.specs.declared.cmd.Cmd.{Cmd}
use Rattle.host_commands.specs.declared.refusal.Refusal.{Refusal}
use Rattle.history_calls.specs.declared.action.HostAction.{HostAction}
use Rattle.history_calls.specs.Frame.{Place}
use Rattle.host_ledger.specs.View.{HostView}
use Rattle.rhm_c.specs.Action.{raw_actions}
use Rattle.realm_host.specs.Call.{Ask}
use Rattle.realm_host.specs.Refusals.{refusal_of}
use Rattle.rhm_c.specs.Answer.{refusal_status, refusal_value}
use Rattle.rhm_c.specs.Command.{command_asked, build_in, no_such_build}
use Rattle.rhm_c.specs.declared.placed_host.PlacedHost.{PlacedHost}
use Rattle.history_calls.specs.Prepared.{actions_asked, actions_back}
use Rattle.rhm_c.specs.declared.action.RawActions.{RawActions}
use Rattle.rhm_c.specs.declared.command.RawCommand.{RawCommand}

-- the X0 that the model predicts: the value of the host's refusal, or 0 if the host does not refuse
abbrev pub word_of : Option Refusal → ℕ
word_of (Some refusal) = refusal_value refusal
word_of None = 0

-- The status of a preparation, with the actions to perform and the X0 to expect from the RMM, which `refusal` gives. If
-- the host refuses to prepare them, `old` stays.
abbrev pub prepared_or_refused : Result (ArrayVec HostAction) Refusal → Option Refusal → RawActions → ℕ × RawActions
prepared_or_refused (Ok actions) refusal old = (0, raw_actions (word_of refusal) actions.items)
prepared_or_refused (Err own) refusal old = (refusal_status own, old)

abbrev pub prepared_of : RawCommand → RawActions → Place → HostView → Result (ℕ × Cmd) ℕ → ℕ × RawActions
prepared_of raw old place host (Ok asked) = prepared_or_refused (actions_asked place host asked.0 (raw.run % 64) asked.1) (refusal_of host asked.0 (Ask asked.1)) old
prepared_of raw old place host (Err status) = (status, old)

-- The result of preparing a command: a status and a list of RMM operations. The model's X0 follows from the host's
-- refusal of the command, if there is one.
abbrev pub prepared : ℕ → RawCommand → RawActions → Place → HostView → ℕ × RawActions
prepared build raw old place host = prepared_of raw old place host (command_asked build raw)

-- The result of preparing an undo: a status and a list of RMM operations. The model does not refuse the undo.
abbrev pub prepared_undo : ℕ → RawActions → Place → HostView → ℕ × RawActions
prepared_undo build old place host = elim (build_in build) [
  | Some number ↦ prepared_or_refused (actions_back place host number) None old
  | None ↦ (no_such_build, old)
]

-- the status and the operations for an open handle; for a closed one the status is 14, and the old operations stay
abbrev pub on_handle : (RawActions → Place → HostView → ℕ × RawActions) → RawActions → Option PlacedHost → ℕ × RawActions
on_handle f old (Some placed) = f old placed.frame placed.host
on_handle f old None = (14, old)
