-- Proofs that `actions_asked` and `actions_back` give the refusal of the host's own checks if one of these checks
-- fails. If none fails, the two functions give the actions, or a refusal that needs no RMM call.
use Rattle.std.proofs.Common.{◌≡◌, ℕ, ◌<◌, Bool, true, false, List, Option, Some, None, Result, Ok, Err, sym, ap, ◌∙◌}
use Rattle.std.specs.Prelude.{nat_lt, option_and_then}
use Rattle.std.specs.List.{last_or}
use Rattle.arrayvec.specs.ArrayVec.{ArrayVec}
use Rattle.realm_model.specs.declared.act.Act.{Act}
use Rattle.realm_model.specs.Act.{reverse_of}
use Rattle.realm_model.specs.Running.{is_running}
use Rattle.realm_model.specs.World.{realm_of}
use Rattle.history_calls.specs.declared.action.HostAction.{HostAction}
use Rattle.history_calls.specs.Frame.{Place}
use Rattle.host_commands.specs.declared.cmd.Cmd.{Cmd}
use Rattle.host_commands.specs.declared.refusal.Refusal.{Refusal}
use Rattle.host_commands.specs.declared.refusal.Refusal.TheVariants.{NoBuild, NothingToUndo, RecRunning}
use Rattle.host_commands.specs.Acts.{act_of}
use Rattle.host_commands.specs.Checks.{AreFound, checks_of, first_that_holds}
use Rattle.host_commands.specs.Needs.{operands}
use Rattle.host_ledger.specs.Summary.{summary_of}
use Rattle.host_ledger.specs.View.{HostView, world_of, open_of, granule_of_page}
use Rattle.realm_host.specs.Call.{Undo}
use Rattle.realm_host.specs.Refusals.{is_newest_running, refusal_of}
use Rattle.realm_host.proofs.Checked.{named_are}
use Rattle.realm_host.proofs.UndoAnswers.{no_build_there, nothing_there, rec_runs, not_refused}
use Rattle.history_calls.specs.Prepared.{allocated_before, act_before, actions_or_refusal, unless_refused, actions_asked, newest_back, actions_of_back, actions_back}

module _ (place : Place) (host : HostView) (build run : ℕ) (cmd : Cmd) where
  asked_by : (refusal : Option Refusal) → first_that_holds (checks_of (summary_of host) build cmd) ≡ refusal
      → actions_asked place host build run cmd ≡ unless_refused refusal (actions_or_refusal place host build run cmd (act_before host build cmd))
  asked_by refusal e = ap (λ (o : Option Refusal). unless_refused o (actions_or_refusal place host build run cmd (act_before host build cmd))) e

  -- if one of the host's own checks fails, `actions_asked` gives the refusal of the first check that fails
  pub asked_refused : (refusal : Refusal) → first_that_holds (checks_of (summary_of host) build cmd) ≡ Some refusal → Err refusal ≡ actions_asked place host build run cmd
  asked_refused refusal e = sym (asked_by (Some refusal) e)

  act_found : (granules : List ℕ) → AreFound (summary_of host) build cmd granules → act_of cmd granules (allocated_before host build) ≡ act_before host build cmd
  act_found granules found =
      ap (λ (gs : List ℕ). act_of cmd gs (allocated_before host build)) (sym (named_are (λ page. granule_of_page host build page) (operands cmd) granules found))

  -- if none of the host's own checks fails, `actions_asked` gives the actions for the command's operation, or a refusal
  -- that needs no RMM call
  pub asked_passed : (granules : List ℕ) (act : Option Act) (result : Result (ArrayVec HostAction) Refusal)
      → first_that_holds (checks_of (summary_of host) build cmd) ≡ None → AreFound (summary_of host) build cmd granules
      → act ≡ act_of cmd granules (allocated_before host build) → result ≡ actions_or_refusal place host build run cmd act → result ≡ actions_asked place host build run cmd
  asked_passed granules act result none found act_is is =
      is ∙ ap (λ (o : Option Act). actions_or_refusal place host build run cmd o) (act_is ∙ act_found granules found) ∙ sym (asked_by None none)

module _ (place : Place) (host : HostView) (build : ℕ) where
  back_by : (refusal : Option Refusal) → refusal_of host build Undo ≡ refusal
      → actions_back place host build ≡ unless_refused refusal (actions_of_back place host build (newest_back host build))
  back_by refusal e = ap (λ (o : Option Refusal). unless_refused o (actions_of_back place host build (newest_back host build))) e

  pub back_no_build : false ≡ nat_lt build host.limits.builds → Err NoBuild ≡ actions_back place host build
  back_no_build none = sym (back_by (Some NoBuild) (no_build_there host build (sym none)))

  module _ (there : build < host.limits.builds) where
    pub back_nothing : None ≡ last_or None (open_of host build) → Err NothingToUndo ≡ actions_back place host build
    back_nothing none = sym (back_by (Some NothingToUndo) (nothing_there host build there (sym none)))

    module _ (newest : Act) (newest_is : last_or None (open_of host build) ≡ Some newest) where
      running_is : is_newest_running host build ≡ is_running (realm_of build (world_of host)) newest
      running_is = ap (λ (o : Option Act). elim o [ Some act ↦ is_running (realm_of build (world_of host)) act | None ↦ false ]) newest_is

      pub back_running : true ≡ is_newest_running host build → Err RecRunning ≡ actions_back place host build
      back_running runs = sym (back_by (Some RecRunning) (rec_runs host build there newest newest_is (sym running_is ∙ sym runs)))

      pub back_passed : (result : Result (ArrayVec HostAction) Refusal) → false ≡ is_newest_running host build
          → result ≡ actions_of_back place host build (reverse_of newest) → result ≡ actions_back place host build
      back_passed result rests is =
          is ∙ ap (actions_of_back place host build) (sym (ap (option_and_then reverse_of) newest_is))
          ∙ sym (back_by None (not_refused host build there newest newest_is (sym running_is ∙ sym rests)))
