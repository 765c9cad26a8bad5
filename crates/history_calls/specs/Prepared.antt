-- The actions of a host on an RMM for a command or an undo that is yet to be performed.
use Rattle.std.specs.Prelude.{◌≡◌, ℕ, [], ◌∷◌, Bool, true, false, Option, Some, None, Result, Ok, Err, unwrap_or, option_map, option_and_then, if◌then◌else◌}
use Rattle.std.specs.List.{last_or}
use Rattle.arrayvec.specs.ArrayVec.{ArrayVec}
use Rattle.realm_model.specs.declared.act.Act.{Act}
use Rattle.realm_model.specs.declared.act.RealmAndRec.{RealmAndRec}
use Rattle.realm_model.specs.declared.states.GranuleState.{GranuleState}
use Rattle.realm_model.specs.declared.states.GranuleState.TheVariants.{Undelegated}
use Rattle.realm_model.specs.Act.{reverse_of}
use Rattle.realm_model.specs.Command.Check.{error_input, error_rec, is_ready}
use Rattle.realm_model.specs.Machine.{cell_at}
use Rattle.realm_model.specs.Running.{next_number}
use Rattle.realm_model.specs.World.{realm_of}
use Rattle.host_commands.specs.declared.cmd.Cmd.{Cmd}
use Rattle.host_commands.specs.declared.cmd.Cmd.TheVariants.{Take, Fill, Peek, Enter, Exit, Poke}
use Rattle.host_commands.specs.declared.refusal.Refusal.{Refusal}
use Rattle.host_commands.specs.declared.refusal.Refusal.TheVariants.{NothingToUndo, Rmi}
use Rattle.host_commands.specs.declared.reply.Allocated.{Allocated}
use Rattle.host_commands.specs.Acts.{act_of}
use Rattle.host_commands.specs.Checks.{checks_of, first_that_holds}
use Rattle.host_ledger.specs.Summary.{summary_of}
use Rattle.host_ledger.specs.View.{HostView, world_of, open_of, granule_of_page}
use Rattle.host_ledger.specs.Vmids.{lowest_vmid}
use Rattle.history_calls.specs.declared.action.HostAction.{HostAction}
use Rattle.history_calls.specs.Actions.{actions_of}
use Rattle.history_calls.specs.Frame.{Place}
use Rattle.history_calls.specs.Made.{subject_in}
use Rattle.realm_host.specs.Allocation.{granules_named, act_asked}
use Rattle.realm_host.specs.Answer.{IsActOf}
use Rattle.realm_host.specs.Call.{Ask, Undo}
use Rattle.realm_host.specs.Readings.{rec_at}
use Rattle.realm_host.specs.Refusals.{no_block, refusal_of}
use Rattle.rmi_monitor.specs.Attributes.{RecAttributes}

-- ---- an operation of a build

-- the realm and the REC of an operation: the RD of the build's realm, and the granule of the REC that the operation
-- names, if they exist
abbrev pub subject_of : HostView → ℕ → Act → RealmAndRec
subject_of host build act = subject_in (world_of host) build act

-- the host's actions on the RMM for an operation of a build; an RMI_REC_ENTER uses the run page with the given number
abbrev pub actions_for : Place → HostView → ℕ → ℕ → Act → ArrayVec HostAction
actions_for place host build run act = record { items = actions_of place (subject_of host build act) run act }

-- ---- a command

-- The values that the host would allocate for a command: the lowest free VMID, and the number of the next REC of the
-- build's realm. The VMID is 1 if none is free, and the number is 0 if there is no realm. The byte of a Peek is not
-- known yet.
abbrev pub allocated_before : HostView → ℕ → Allocated
allocated_before host build = record {
  vmid = unwrap_or (lowest_vmid host) 1;
  number = next_number (realm_of build (world_of host));
  byte = 0;
}

-- the operation that a command would perform, if there is one; there is none for a Take
abbrev pub act_before : HostView → ℕ → Cmd → Option Act
act_before host build cmd = act_of cmd (granules_named host build cmd) (allocated_before host build)

abbrev pub is_peek : Cmd → Bool
is_peek (Peek page offset) = true
is_peek _ = false

-- Unless the command is a Peek, the operation computed beforehand is the one that the host would perform.
abbrev pub IsPreparedAsAsked : HostView → ℕ → Cmd → Type 0
IsPreparedAsAsked host build cmd = is_peek cmd ≡ false → act_before host build cmd ≡ act_asked host build cmd

-- the result for a command that has no operation: no actions for a Take, and RMI_ERROR_INPUT for any other command
abbrev pub without_act : Cmd → Result (ArrayVec HostAction) Refusal
without_act (Take order) = Ok (record { items = [] })
without_act _ = Err (Rmi error_input)

-- ---- refusals of the model that need no answer of an RMM

-- the refusal of an access to a page, unless the page's granule is UNDELEGATED
abbrev pub access_refusal : Option GranuleState → Option Refusal
access_refusal (Some state) = elim state [ Undelegated ↦ None | _ ↦ Some (Rmi error_input) ]
access_refusal None = Some (Rmi error_input)

-- the refusal of a command on a REC, if the REC does not exist
abbrev pub entry_refusal : Option (ℕ × RecAttributes) → Option Refusal
entry_refusal (Some rec) = None
entry_refusal None = Some (Rmi error_input)

-- the refusal of a REC exit, if the REC is READY or does not exist
abbrev pub exit_refusal : Option (ℕ × RecAttributes) → Option Refusal
exit_refusal (Some rec) = if is_ready rec.1.state then Some (Rmi error_rec) else None
exit_refusal None = Some (Rmi error_input)

-- the state of a build's page, if the build has the page
abbrev pub state_of_leased : HostView → ℕ → ℕ → Option GranuleState
state_of_leased host build page = option_map (λ g. (cell_at (world_of host).machine g).state) (granule_of_page host build page)

-- The refusal, if any, that is found without a call of the RMM, for a command that has passed the host's own checks. A
-- command refused in this way makes no call, or it names a REC that the realm does not have.
abbrev pub refused_before : HostView → ℕ → Cmd → Option Refusal
refused_before host build (Take order) = first_that_holds (no_block host order ∷ [])
refused_before host build (Fill page value) = access_refusal (state_of_leased host build page)
refused_before host build (Peek page offset) = access_refusal (state_of_leased host build page)
refused_before host build (Enter number) = entry_refusal (rec_at (world_of host) build number)
refused_before host build (Exit number) = exit_refusal (rec_at (world_of host) build number)
refused_before host build (Poke number ipa offset value) = entry_refusal (rec_at (world_of host) build number)
refused_before host build _ = None

-- ---- the actions for a command

-- the refusal if there is one, else the given result, which may be a refusal too
abbrev pub unless_refused : Option Refusal → Result (ArrayVec HostAction) Refusal → Result (ArrayVec HostAction) Refusal
unless_refused (Some refusal) actions = Err refusal
unless_refused None actions = actions

abbrev pub actions_of_act : Place → HostView → ℕ → ℕ → Cmd → Option Act → Result (ArrayVec HostAction) Refusal
actions_of_act place host build run cmd (Some act) = Ok (actions_for place host build run act)
actions_of_act place host build run cmd None = without_act cmd

-- the actions for a command with the given operation, or the refusal that is found without a call of the RMM
abbrev pub actions_or_refusal : Place → HostView → ℕ → ℕ → Cmd → Option Act → Result (ArrayVec HostAction) Refusal
actions_or_refusal place host build run cmd act = unless_refused (refused_before host build cmd) (actions_of_act place host build run cmd act)

-- The actions on the RMM for a command, or the refusal that the host gives before the RMM is called.
abbrev pub actions_asked : Place → HostView → ℕ → ℕ → Cmd → Result (ArrayVec HostAction) Refusal
actions_asked place host build run cmd =
    unless_refused (first_that_holds (checks_of (summary_of host) build cmd)) (actions_or_refusal place host build run cmd (act_before host build cmd))

-- ---- theorems of commands

-- A refusal that is found before the RMM is called is the one that the host gives to the command.
abbrev pub IsRefusedAsAsked : Place → HostView → ℕ → ℕ → Cmd → Type 0
IsRefusedAsAsked place host build run cmd =
    (refusal : Refusal) → actions_asked place host build run cmd ≡ Err refusal → refusal_of host build (Ask cmd) ≡ Some refusal

-- a command makes no call of the RMM: it is a Take, Fill, Peek or Exit
abbrev pub makes_no_call : Cmd → Bool
makes_no_call (Take order) = true
makes_no_call (Fill page value) = true
makes_no_call (Peek page offset) = true
makes_no_call (Exit number) = true
makes_no_call _ = false

-- If `actions_asked` gives actions for a command that makes no call of the RMM, the host does not refuse the command.
abbrev pub IsDecidedBefore : Place → HostView → ℕ → ℕ → Cmd → Type 0
IsDecidedBefore place host build run cmd =
    makes_no_call cmd ≡ true → (actions : ArrayVec HostAction) → actions_asked place host build run cmd ≡ Ok actions
    → refusal_of host build (Ask cmd) ≡ None

-- ---- an undo

-- the reverse of a build's newest open operation; None if the build has no open operation
abbrev pub newest_back : HostView → ℕ → Option Act
newest_back host build = option_and_then reverse_of (last_or None (open_of host build))

abbrev pub actions_of_back : Place → HostView → ℕ → Option Act → Result (ArrayVec HostAction) Refusal
actions_of_back place host build (Some back) = Ok (actions_for place host build 0 back)
actions_of_back place host build None = Err NothingToUndo

-- The actions on the RMM for a build's undo, or the refusal of the undo.
abbrev pub actions_back : Place → HostView → ℕ → Result (ArrayVec HostAction) Refusal
actions_back place host build = unless_refused (refusal_of host build Undo) (actions_of_back place host build (newest_back host build))

-- An undo computed beforehand agrees with the undo that the host performs. Both have the same refusal, or the actions
-- computed are those for the operation that the host records. If `actions_back` gives actions, the host does not refuse
-- the undo.
pub record IsUndoPrepared (place : Place) (host : HostView) (build : ℕ) : Type 0 where
  pub refused : (refusal : Refusal) → refusal_of host build Undo ≡ Some refusal → actions_back place host build ≡ Err refusal
  pub performed : (act : Act) → refusal_of host build Undo ≡ None → IsActOf host build Undo act → actions_back place host build ≡ Ok (actions_for place host build 0 act)
  pub decided : (actions : ArrayVec HostAction) → actions_back place host build ≡ Ok actions → refusal_of host build Undo ≡ None
