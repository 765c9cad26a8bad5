-- Proofs that the host refuses what `actions_asked` refuses, with the same refusal, and accepts a Take, Fill, Peek or
-- Exit for which `actions_asked` gives actions.
use Rattle.std.proofs.Common.{◌≡◌, ℕ, Bool, true, false, cond, not, List, [], ◌∷◌, map, Option, Some, None, Result, Ok, Err, refl, sym, ap, ◌∙◌}
use Rattle.std.specs.Prelude.{option_map, option_and_then}
use Rattle.std.specs.List.{filter_map, cons_option}
use Rattle.std.specs.FinMap.{get}
use Rattle.arrayvec.specs.ArrayVec.{ArrayVec}
use Rattle.realm_model.specs.declared.act.Act.{Act}
use Rattle.realm_model.specs.declared.act.Act.TheVariants as acts
use Rattle.realm_model.specs.declared.states.GranuleState.{GranuleState}
use Rattle.realm_model.specs.declared.states.GranuleState.TheVariants.{Undelegated}
use Rattle.realm_model.specs.declared.states.RecState.{RecState}
use Rattle.realm_model.specs.declared.states.RecState.TheVariants.{Ready, Running}
use Rattle.realm_model.specs.Command.Check.{check, error_input, error_rec, is_ready, with_realm, with_rec, put_rec}
use Rattle.realm_model.specs.Command.Rec.{rec_exit}
use Rattle.realm_model.specs.Machine.{RecRow, RealmRow, Seen, cell_at, seen}
use Rattle.realm_model.specs.Outcome.{outcome_of, on_realm}
use Rattle.realm_model.specs.Step.{used_vmids}
use Rattle.realm_model.specs.Update.{Outcome, Update}
use Rattle.realm_model.specs.World.{realm_of}
use Rattle.rmi_monitor.specs.Attributes.{RecAttributes}
use Rattle.history_calls.specs.declared.action.HostAction.{HostAction}
use Rattle.history_calls.specs.Frame.{Place}
use Rattle.host_commands.specs.declared.cmd.Cmd.{Cmd}
use Rattle.host_commands.specs.declared.cmd.Cmd.TheVariants.{Take, Fill, Peek, Delegate, Realm, Rtt, Ripas, Data, Unknown, Rec, Activate, Enter, Exit, Poke}
use Rattle.host_commands.specs.declared.refusal.Refusal.{Refusal}
use Rattle.host_commands.specs.declared.refusal.Refusal.TheVariants.{Rmi}
use Rattle.host_commands.specs.declared.reply.Allocated.{Allocated}
use Rattle.host_commands.specs.Acts.{act_of, is_ipa}
use Rattle.host_commands.specs.Checks.{checks_of, first_that_holds}
use Rattle.host_commands.specs.Laws.{outcome_of_act}
use Rattle.host_commands.specs.Needs.{operands}
use Rattle.host_commands.proofs.Refused.{first_passes, first_stops}
use Rattle.host_ledger.specs.Summary.{summary_of}
use Rattle.host_ledger.specs.View.{HostView, world_of, granule_of_page}
use Rattle.realm_host.specs.Allocation.{act_asked, allocated_for, granules_named}
use Rattle.realm_host.specs.Call.{Ask}
use Rattle.realm_host.specs.Refusals.{last_checks, no_block, refused_by, refusal_of}
use Rattle.history_calls.specs.Prepared.{allocated_before, act_before, access_refusal, entry_refusal, exit_refusal, unless_refused, without_act}
use Rattle.history_calls.specs.Prepared.{actions_of_act, actions_or_refusal, actions_asked, makes_no_call}

-- the refusal if the result is one, or None if the result is a list of actions
abbrev pub error_in : Result (ArrayVec HostAction) Refusal → Option Refusal
error_in (Ok actions) = None
error_in (Err refusal) = Some refusal

-- the host's refusal if an outcome is an error, or None if the outcome is a success
abbrev pub decision : Outcome → Option Refusal
decision outcome = first_that_holds (refused_by outcome)

-- ---- pages

access_decided : (s : GranuleState) (updates : List Update) (actions : ArrayVec HostAction)
    → error_in (unless_refused (access_refusal (Some s)) (Ok actions)) ≡ decision (check (elim s [ Undelegated ↦ true | _ ↦ false ]) error_input (Ok updates))
unfolding check
access_decided Undelegated updates actions = refl
access_decided _ updates actions = refl

-- ---- RECs

-- the attributes of a REC, given its number
abbrev own_attributes : ℕ → RecRow → RecAttributes
own_attributes number rec = record { number = number; state = rec.state; auxiliaries = rec.auxiliaries }

-- the granule and the attributes of the realm's REC with the given number, if there is one
abbrev rec_in : Option RealmRow → ℕ → Option (ℕ × RecAttributes)
rec_in realm number =
    option_map (λ (rec : RecRow). (rec.granule, own_attributes number rec)) (option_and_then (λ (row : RealmRow). get row.recs number) realm)

abbrev row_in : Option Seen → Option RealmRow
row_in realm = option_and_then (λ (rd : Seen). rd.cell.descriptor) realm

-- `exit_refusal` of a REC is the refusal of the REC's exit, or None if the exit succeeds
rec_exit_decided : (rec : Option RecRow) (number : ℕ) (after : RecRow → List Update) (actions : ArrayVec HostAction)
    → error_in (unless_refused (exit_refusal (option_map (λ (rec : RecRow). (rec.granule, own_attributes number rec)) rec)) (Ok actions))
    ≡ decision (elim rec [ Some rec ↦ check (not (is_ready rec.state)) error_rec (Ok (after rec)) | None ↦ Err error_input ])
unfolding check
rec_exit_decided None number after actions = refl
rec_exit_decided (Some rec) number after actions = at rec.state
  where
    at : (s : RecState) → error_in (unless_refused (cond (is_ready s) (Some (Rmi error_rec)) None) (Ok actions))
        ≡ decision (cond (not (is_ready s)) (Ok (after rec)) (Err error_rec))
    at Ready = refl
    at Running = refl

-- the outcome that a function gives for a realm, or an input error if there is no realm
abbrev on_row : Option RealmRow → (RealmRow → Outcome) → Outcome
on_row row f = elim row [ Some realm ↦ f realm | None ↦ Err error_input ]

exit_decided : (realm : Option Seen) (number : ℕ) (actions : ArrayVec HostAction)
    → error_in (unless_refused (exit_refusal (rec_in (row_in realm) number)) (Ok actions)) ≡ decision (on_realm realm (λ rd. rec_exit rd number))
unfolding with_realm with_rec
exit_decided None number actions = refl
exit_decided (Some rd) number actions = at rd.cell.descriptor
  where
    at : (row : Option RealmRow) → error_in (unless_refused (exit_refusal (rec_in row number)) (Ok actions))
        ≡ decision (on_row row (λ realm. with_rec realm number (λ rec. check (not (is_ready rec.state)) error_rec (Ok (put_rec rd realm number (record rec { state = Ready }) ∷ [])))))
    at None = refl
    at (Some realm) = rec_exit_decided (get realm.recs number) number (λ rec. put_rec rd realm number (record rec { state = Ready }) ∷ []) actions

-- if `entry_refusal` gives a refusal for a REC, the outcome of each command on that REC is the same refusal
entry_decided : (realm : Option Seen) (number : ℕ) (f : Seen → RealmRow → RecRow → Outcome) (actions : ArrayVec HostAction) (refusal : Refusal)
    → error_in (unless_refused (entry_refusal (rec_in (row_in realm) number)) (Ok actions)) ≡ Some refusal
    → decision (on_realm realm (λ rd. with_realm rd (λ row. with_rec row number (λ rec. f rd row rec)))) ≡ Some refusal
unfolding with_realm with_rec
entry_decided None number f actions refusal e = e
entry_decided (Some rd) number f actions refusal e = at rd.cell.descriptor e
  where
    of_rec : (row : RealmRow) (rec : Option RecRow)
        → error_in (unless_refused (entry_refusal (option_map (λ (rec : RecRow). (rec.granule, own_attributes number rec)) rec)) (Ok actions)) ≡ Some refusal
        → decision (elim rec [ Some rec ↦ f rd row rec | None ↦ Err error_input ]) ≡ Some refusal
    of_rec row None e = e
    of_rec row (Some rec) e = cc

    at : (row : Option RealmRow) → error_in (unless_refused (entry_refusal (rec_in row number)) (Ok actions)) ≡ Some refusal
        → decision (on_row row (λ row. with_rec row number (λ rec. f rd row rec))) ≡ Some refusal
    at None e = e
    at (Some row) e = of_rec row (get row.recs number) e

entry_or_input : (rec : Option (ℕ × RecAttributes)) → error_in (unless_refused (entry_refusal rec) (Err (Rmi error_input))) ≡ Some (Rmi error_input)
entry_or_input None = refl
entry_or_input (Some rec) = refl

-- ---- commands

module _ (place : Place) (host : HostView) (build run : ℕ) where
  -- the refusal, if any, that is found before any RMM call for a command that has passed the host's own checks
  abbrev refusal_before : Cmd → Option Refusal
  refusal_before cmd = error_in (actions_or_refusal place host build run cmd (act_before host build cmd))

  -- the refusal, if any, by the last check of a command: for lack of a block if the command is a Take, and by the RMM
  -- otherwise
  abbrev last_refusal : Cmd → Option Refusal
  last_refusal cmd = first_that_holds (last_checks host build cmd)

  -- the outcome of the given operation with the given granules, or an input error if there is no operation
  abbrev outcome : Option Act → List ℕ → Outcome
  outcome act granules =
      outcome_of_act host.limits (used_vmids (world_of host).machine) act (realm_of build (world_of host)) (map (seen (world_of host).machine) granules)

  fill_decided : (page value : ℕ) → refusal_before (Fill page value) ≡ last_refusal (Fill page value)
  unfolding act_of operands outcome_of
  fill_decided page value = at (granule_of_page host build page)
    where
      at : (o : Option ℕ) → error_in (unless_refused (access_refusal (option_map (λ g. (cell_at (world_of host).machine g).state) o))
          (actions_of_act place host build run (Fill page value) (act_of (Fill page value) (cons_option o []) (allocated_before host build))))
          ≡ decision (outcome (act_of (Fill page value) (cons_option o []) (allocated_before host build)) (cons_option o []))
      at None = refl
      at (Some g) = access_decided (cell_at (world_of host).machine g).state _ _

  peek_decided : (page offset : ℕ) → refusal_before (Peek page offset) ≡ last_refusal (Peek page offset)
  unfolding act_of operands outcome_of
  peek_decided page offset = at (granule_of_page host build page) (allocated_for host build (Peek page offset) (granules_named host build (Peek page offset)))
    where
      at : (o : Option ℕ) (read : Allocated) → error_in (unless_refused (access_refusal (option_map (λ g. (cell_at (world_of host).machine g).state) o))
          (actions_of_act place host build run (Peek page offset) (act_of (Peek page offset) (cons_option o []) (allocated_before host build))))
          ≡ decision (outcome (act_of (Peek page offset) (cons_option o []) read) (cons_option o []))
      at None read = refl
      at (Some g) read = access_decided (cell_at (world_of host).machine g).state _ _

  take_decided : (order : ℕ) → refusal_before (Take order) ≡ last_refusal (Take order)
  unfolding act_of
  take_decided order = at (first_that_holds (no_block host order ∷ []))
    where
      at : (o : Option Refusal) → error_in (unless_refused o (Ok (record { items = [] }))) ≡ o
      at None = refl
      at (Some refusal) = refl

  leaves_decided : (number : ℕ) → refusal_before (Exit number) ≡ last_refusal (Exit number)
  unfolding act_of operands outcome_of
  leaves_decided number = exit_decided (realm_of build (world_of host)) number _

  poke_decided : (number ipa offset value : ℕ) (refusal : Refusal) → refusal_before (Poke number ipa offset value) ≡ Some refusal
      → last_refusal (Poke number ipa offset value) ≡ Some refusal
  unfolding act_of operands outcome_of
  poke_decided number ipa offset value refusal = at (is_ipa ipa)
    where
      at : (fits : Bool) → error_in (unless_refused (entry_refusal (rec_in (row_in (realm_of build (world_of host))) number))
          (actions_of_act place host build run (Poke number ipa offset value) (cond fits (Some (acts.Poke number ipa offset value)) None))) ≡ Some refusal
          → decision (outcome (cond fits (Some (acts.Poke number ipa offset value)) None) []) ≡ Some refusal
      at true e = entry_decided (realm_of build (world_of host)) number _ _ refusal e
      at false e = sym (entry_or_input (rec_in (row_in (realm_of build (world_of host))) number)) ∙ e

  -- if `actions_of_act` refuses a command other than a Take, the outcome of the command is the same refusal
  others_decided : (cmd : Cmd) (act : Option Act) (granules : List ℕ) → without_act cmd ≡ Err (Rmi error_input) → (refusal : Refusal)
      → error_in (actions_of_act place host build run cmd act) ≡ Some refusal → decision (outcome act granules) ≡ Some refusal
  others_decided cmd (Some act) granules is refusal e = cc
  others_decided cmd None granules is refusal e = sym (ap error_in is) ∙ e

  decided : (cmd : Cmd) (refusal : Refusal) → refusal_before cmd ≡ Some refusal → last_refusal cmd ≡ Some refusal
  unfolding act_of operands outcome_of
  decided (Take order) refusal e = sym (take_decided order) ∙ e
  decided (Fill page value) refusal e = sym (fill_decided page value) ∙ e
  decided (Peek page offset) refusal e = sym (peek_decided page offset) ∙ e
  decided (Exit number) refusal e = sym (leaves_decided number) ∙ e
  decided (Enter number) refusal e = entry_decided (realm_of build (world_of host)) number _ _ refusal e
  decided (Poke number ipa offset value) refusal e = poke_decided number ipa offset value refusal e
  decided cmd refusal e = others_decided cmd (act_before host build cmd) (granules_named host build cmd) refl refusal e

  module _ (cmd : Cmd) where
    -- the refusal, if any, that `actions_asked` gives if `first` is the result of the host's own checks
    prepared_by : Option Refusal → Option Refusal
    prepared_by first = error_in (unless_refused first (actions_or_refusal place host build run cmd (act_before host build cmd)))

    pub refused_as_asked : (refusal : Refusal) → actions_asked place host build run cmd ≡ Err refusal → refusal_of host build (Ask cmd) ≡ Some refusal
    unfolding refusal_of prepared_by
    refused_as_asked refusal e = at (first_that_holds (checks_of (summary_of host) build cmd)) refl
      where
        at : (first : Option Refusal) → first_that_holds (checks_of (summary_of host) build cmd) ≡ first → refusal_of host build (Ask cmd) ≡ Some refusal
        at (Some own) is =
            first_stops (checks_of (summary_of host) build cmd) (last_checks host build cmd) own is ∙ sym (ap prepared_by is) ∙ ap error_in e
        at None is =
            first_passes (checks_of (summary_of host) build cmd) (last_checks host build cmd) is ∙ decided cmd refusal (sym (ap prepared_by is) ∙ ap error_in e)

    -- if `refusal_before` and `last_refusal` agree on a command, `actions_asked` refuses the command exactly as the
    -- host does
    alike : refusal_before cmd ≡ last_refusal cmd → error_in (actions_asked place host build run cmd) ≡ refusal_of host build (Ask cmd)
    unfolding refusal_of prepared_by
    alike last = at (first_that_holds (checks_of (summary_of host) build cmd)) refl
      where
        at : (first : Option Refusal) → first_that_holds (checks_of (summary_of host) build cmd) ≡ first
            → error_in (actions_asked place host build run cmd) ≡ refusal_of host build (Ask cmd)
        at (Some own) is = ap prepared_by is ∙ sym (first_stops (checks_of (summary_of host) build cmd) (last_checks host build cmd) own is)
        at None is = ap prepared_by is ∙ last ∙ sym (first_passes (checks_of (summary_of host) build cmd) (last_checks host build cmd) is)

  pub decided_before : (cmd : Cmd) → makes_no_call cmd ≡ true → (actions : ArrayVec HostAction) → actions_asked place host build run cmd ≡ Ok actions
      → refusal_of host build (Ask cmd) ≡ None
  decided_before (Take order) is actions e = sym (alike (Take order) (take_decided order)) ∙ ap error_in e
  decided_before (Fill page value) is actions e = sym (alike (Fill page value) (fill_decided page value)) ∙ ap error_in e
  decided_before (Peek page offset) is actions e = sym (alike (Peek page offset) (peek_decided page offset)) ∙ ap error_in e
  decided_before (Exit number) is actions e = sym (alike (Exit number) (leaves_decided number)) ∙ ap error_in e
  decided_before _ is actions e = cc
