-- The completion of prepared commands and undos, given the RMM's answers to their calls.
use Rattle.std.specs.Prelude.{ℕ, ◌==◌, ◌%◌, ◌-◌, ◌^◌, ◌||◌, Bool, true, List, Option, Some, None, Result, Ok, Err, if◌then◌else◌}
use Rattle.std.specs.List.{list_all}
use Rattle.arrayvec.specs.ArrayVec.{ArrayVec}
use Rattle.realm_model.specs.Rmi.{result_word}
use Rattle.host_commands.specs.declared.cmd.Cmd.{Cmd}
use Rattle.host_commands.specs.declared.refusal.Refusal.{Refusal}
use Rattle.host_commands.specs.declared.refusal.Refusal.TheVariants.{Rmi}
use Rattle.history_calls.specs.declared.action.HostAction.{HostAction}
use Rattle.history_calls.specs.declared.action.HostAction.TheVariants.{Call as Calls, Enter}
use Rattle.history_calls.specs.Frame.{Place}
use Rattle.host_ledger.specs.View.{HostView}
use Rattle.realm_host.specs.Call.{Call, Ask, Undo}
use Rattle.realm_host.specs.Refusals.{refusal_of}
use Rattle.rhm_c.specs.Answer.{only, refused_as, answered_as, IsAnsweredAs, IsOnly}
use Rattle.rhm_c.specs.Command.{no_such_build}
use Rattle.history_calls.specs.Prepared.{actions_asked, actions_back}
use Rattle.rhm_c.specs.declared.answer.CallAnswer.{CallAnswer}
use Rattle.rhm_c.specs.declared.command.RawCommand.{RawCommand}
use Rattle.rhm_c.specs.declared.commit.FirmwareAnswer.{FirmwareAnswer}

-- ---- the answer of the RMM, beside that of the model

-- the answer if the RMM's X0 is not the model's: status 16, with the model's X0 as the value
abbrev pub diverged : ℕ → CallAnswer
diverged word = record { status = 16; value = word }

-- The RMM has performed the operation: if the operation is a call, the status in X0 is RMI_SUCCESS. After an entry X0
-- may also say that the REC still runs. An operation that is not a call counts as performed.
abbrev pub is_performed : ℕ → HostAction → Bool
is_performed x0 (Calls call x1) = x0 % 256 == 0
is_performed x0 (Enter rec run) = x0 % 256 == 0 || x0 == 2 ^ 64 - 2
is_performed x0 _ = true

-- if the output of the call is known, X1 is that output
abbrev pub is_output : ℕ → HostAction → Bool
is_output x1 (Calls call (Some known)) = x1 == known
is_output x1 _ = true

-- The check that the RMM has performed the operations that the model performs, and has returned their known outputs. If
-- it has not performed them, the status is 16, and for another output it is 17.
abbrev pub check_performed : FirmwareAnswer → List HostAction → Result (Unit {0}) CallAnswer
check_performed answer actions =
    if list_all (is_performed answer.x0) actions then (if list_all (is_output answer.x1) actions then Ok tt else Err (only 17)) else Err (diverged 0)

-- The answer to a refused call: the refusal, or status 16 if the model refuses the call with a result word other than
-- X0.
abbrev pub check_refused : ℕ → Refusal → CallAnswer
check_refused x0 (Rmi rmi) = if x0 == result_word rmi then refused_as (Rmi rmi) else diverged (result_word rmi)
check_refused x0 refusal = refused_as refusal

-- The check that a prepared call may be performed, given the RMM's answer, the host's refusal, if any, and the prepared
-- operations. If the call may not be performed, the error is the answer to the call.
abbrev pub committable : FirmwareAnswer → Option Refusal → Result (ArrayVec HostAction) Refusal → Result (Unit {0}) CallAnswer
committable answer (Some refusal) (Ok actions) = Err (check_refused answer.x0 refusal)
committable answer None (Ok actions) = check_performed answer actions.items
committable answer refusal (Err own) = Err (refused_as own)

-- ---- calls that are committed

-- if the check passes, the host answers the call; if not, the error of the check is the answer, and nothing changes
abbrev pub IsPerformedIf : Result (Unit {0}) CallAnswer → HostView → ℕ → Call → CallAnswer → HostView → Type 0
IsPerformedIf (Ok done) old build call given new = IsAnsweredAs answered_as old build call given new
IsPerformedIf (Err answer) old build call given new = IsOnly old answer given new

-- A valid command is performed exactly if the host and its model of the RMM accept it, and the RMM has performed it
-- with the known outputs. If the model and the RMM refuse the command with the same word, that refusal is the answer.
abbrev pub IsCommitted : RawCommand → FirmwareAnswer → Result (ℕ × Cmd) ℕ → Place → HostView → CallAnswer → HostView → Type 0
IsCommitted raw answer (Ok asked) place old given new =
    IsPerformedIf (committable answer (refusal_of old asked.0 (Ask asked.1)) (actions_asked place old asked.0 (raw.run % 64) asked.1)) old asked.0 (Ask asked.1) given new
IsCommitted raw answer (Err status) place old given new = IsOnly old (only status) given new

-- An undo for a valid build number is performed exactly if the host accepts it, and the RMM has performed it with the
-- known outputs. The model performs each undo that is prepared.
abbrev pub IsUndoCommitted : FirmwareAnswer → Option ℕ → Place → HostView → CallAnswer → HostView → Type 0
IsUndoCommitted answer (Some build) place old given new = IsPerformedIf (committable answer None (actions_back place old build)) old build Undo given new
IsUndoCommitted answer None place old given new = IsOnly old (only no_such_build) given new
