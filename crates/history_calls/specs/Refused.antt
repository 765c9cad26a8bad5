-- The refusal of a command by the model's checks, computed without performing the command.
use Rattle.std.specs.Prelude.{ℕ, ◌-◌, ◌%◌, ◌==◌, List, [], ◌∷◌, length, Bool, true, false, cond, not, ◌&&◌, Option, Some, None, is_some, option_map, option_and_then}
use Rattle.std.specs.FinMap.{get}
use Rattle.std.specs.List.{list_all, range_with_len}
use Rattle.granule_addr.specs.Ipa.{is_protected_at}
use Rattle.granule_addr.specs.Root.{start_count}
use Rattle.granule_addr.specs.declared.width.Root.{Root}
use Rattle.realm_model.specs.declared.act.Act.{Act}
use Rattle.realm_model.specs.declared.act.Act.TheVariants as acts
use Rattle.realm_model.specs.declared.rmi.Rmi.{Rmi}
use Rattle.realm_model.specs.declared.states.GranuleState.{GranuleState}
use Rattle.realm_model.specs.declared.states.GranuleState.TheVariants.{Undelegated}
use Rattle.realm_model.specs.Command.Check.{error_input, error_realm, error_rec, error_rtt, is_delegated, are_distinct, is_new, is_ready}
use Rattle.realm_model.specs.Machine.{RealmRow, RecRow, seen}
use Rattle.realm_model.specs.Rows.{Row, is_table_place, is_page_run, is_unassigned, is_assigned, is_table}
use Rattle.realm_model.specs.World.{World}
use Rattle.host_commands.specs.declared.cmd.Cmd.{Cmd}
use Rattle.host_commands.specs.declared.cmd.Cmd.TheVariants.{Take, Delegate, Data}
use Rattle.host_commands.specs.declared.refusal.Refusal.{Refusal}
use Rattle.host_commands.specs.declared.refusal.Refusal.TheVariants as refusal
use Rattle.host_ledger.specs.View.{HostView, world_of}
use Rattle.host_ledger.specs.Vmids.{lowest_vmid}
use Rattle.realm_host.specs.Readings.{row_of, row_view}
use Rattle.realm_host.specs.declared.reading.RowView.{RowView}
use Rattle.rmi_monitor.specs.Attributes.{RealmAttributes, RecAttributes}
use Rattle.rmi_monitor.specs.Named.{rec_attributes_of}
use Rattle.rmi_monitor.specs.View.{attributes_of}
use Rattle.rmi_monitor.specs.Walked.{walk_of}
use Rattle.history_calls.specs.Prepared.{refused_before, state_of_leased}

-- the given refusal if a check fails, otherwise the refusal by the remaining checks, if any
abbrev pub unless : Bool → Rmi → Option Rmi → Option Rmi
unless holds rmi rest = cond holds rest (Some rmi)

-- ---- granules

-- a granule of a world is DELEGATED
abbrev pub is_delegated_in : World → ℕ → Bool
is_delegated_in world granule = is_delegated (seen world.machine granule)

-- the state of a page's granule is UNDELEGATED; false if there is no such page
abbrev pub is_undelegated_page : Option GranuleState → Bool
is_undelegated_page (Some state) = elim state [ Undelegated ↦ true | _ ↦ false ]
is_undelegated_page None = false

-- The page that a command is to delegate, or from which RMI_DATA_CREATE is to copy, is UNDELEGATED; true for any other
-- command.
abbrev pub is_host_page_undelegated : HostView → ℕ → Cmd → Bool
is_host_page_undelegated host build (Delegate page) = is_undelegated_page (state_of_leased host build page)
is_host_page_undelegated host build (Data page ipa source) = is_undelegated_page (state_of_leased host build source)
is_host_page_undelegated host build _ = true

-- a granule can be a starting table of the new realm: it is DELEGATED, and not the RD
abbrev pub can_start : World → ℕ → ℕ → Bool
can_start world rd table = is_delegated_in world table && not (table == rd)

-- the refusal, if any, of a realm's creation, given the list of its RD and its starting tables. RMM 1.0,
-- RMI_REALM_CREATE
abbrev pub realm_refusal : HostView → Root → List ℕ → Option Rmi
realm_refusal host root [] = Some error_input
realm_refusal host root (rd ∷ tables) =
    unless (root.first % start_count root.width == 0 && is_delegated_in (world_of host) rd && list_all (can_start (world_of host) rd) tables
    && is_some (lowest_vmid host)) error_input None

-- the refusal of a command that needs a NEW realm, if the realm is not NEW
abbrev pub state_refusal : RealmAttributes → Option Rmi
state_refusal realm = unless (is_new realm.state) error_realm None

-- the refusal, if any, of a REC's creation, given the list of its own granule and its auxiliary granules. RMM 1.0,
-- RMI_REC_CREATE
abbrev pub rec_refusal : HostView → RealmAttributes → List ℕ → Option Rmi
rec_refusal host realm [] = Some error_input
rec_refusal host realm (rec ∷ auxiliaries) =
    unless (list_all (is_delegated_in (world_of host)) (rec ∷ auxiliaries) && are_distinct (rec ∷ auxiliaries) && length auxiliaries == host.limits.aux) error_input
    (state_refusal realm)

-- ---- walks in the realm of a build. RMM 1.0, RMI_ERROR_RTT

-- the row where the walk of an IPA granule in a realm ends, if the realm exists and has the IPA granule
abbrev pub end_in : Option RealmRow → ℕ → ℕ → Option RowView
end_in row ipa level = option_map (row_view ipa) (option_and_then (λ (realm : RealmRow). walk_of realm ipa level) row)

-- the refusal of a new table, if the walk does not end one level above the table, or ends at a TABLE entry
abbrev pub new_table_refusal : ℕ → Option RowView → Option Rmi
new_table_refusal above (Some row) = unless (row.level == above && not (is_table row.entry)) (error_rtt row.level) None
new_table_refusal above None = Some (error_rtt 0)

-- the walk ends at level 3, at an entry that is UNASSIGNED
abbrev pub is_free_row : Option RowView → Bool
is_free_row (Some row) = row.level == 3 && is_unassigned row.entry
is_free_row None = false

-- each of a number of consecutive IPA granules, from the given one on, has an UNASSIGNED entry of level 3
abbrev pub are_free_rows : Option RealmRow → ℕ → ℕ → Bool
are_free_rows row ipa count = list_all (λ page. is_free_row (end_in row page 3)) (range_with_len ipa count)

-- the refusal, if any, of a command that needs UNASSIGNED entries of level 3, given whether they are UNASSIGNED and
-- where the walk ends
abbrev pub run_refusal : Bool → Option RowView → Option Rmi
run_refusal free (Some row) = unless (row.level == 3 && free) (error_rtt row.level) None
run_refusal free None = Some (error_rtt 0)

-- the refusal of a guest's write, unless the walk ends at an ASSIGNED entry that leads to a page
abbrev pub write_refusal : Option RowView → Option Rmi
write_refusal (Some row) = unless (is_assigned row.entry) (error_rtt row.level) (unless (is_some row.entry.granule) error_input None)
write_refusal None = Some (error_rtt 0)

-- ---- RECs

-- the granule and the attributes of the realm's REC with the given number, if there is one
abbrev pub rec_of_number : Option RealmRow → ℕ → Option (ℕ × RecAttributes)
rec_of_number row number =
    option_map (λ (rec : RecRow). (rec.granule, rec_attributes_of number rec)) (option_and_then (λ (realm : RealmRow). get realm.recs number) row)

abbrev pub enter_refusal : RealmAttributes → Option (ℕ × RecAttributes) → Option Rmi
enter_refusal realm (Some rec) = unless (not (is_new realm.state)) error_realm (unless (is_ready rec.1.state) error_rec None)
enter_refusal realm None = Some error_input

abbrev pub poke_refusal : Bool → Option RowView → Option (ℕ × RecAttributes) → Option Rmi
poke_refusal protected row (Some rec) = unless protected error_input (unless (not (is_ready rec.1.state)) error_rec (write_refusal row))
poke_refusal protected row None = Some error_input

-- ---- operations

-- the refusal, if any, of a command on a realm's tables or memory
abbrev pub refusal_in_memory : World → Option RealmRow → Bool → RealmAttributes → Act → Option Rmi
refusal_in_memory world row ready realm (acts.Rtt granule ipa level) =
    unless (is_delegated_in world granule && is_table_place ipa level && is_protected_at ipa realm.root.width) error_input
    (new_table_refusal (level - 1) (end_in row ipa (level - 1)))
refusal_in_memory world row ready realm (acts.Ripas ipa count) =
    unless (is_page_run ipa count && is_protected_at ipa realm.root.width) error_input
    (unless (is_new realm.state) error_realm (run_refusal (are_free_rows row ipa count) (end_in row ipa 3)))
refusal_in_memory world row ready realm (acts.Data granule ipa source) =
    unless (is_delegated_in world granule && ready && is_protected_at ipa realm.root.width) error_input
    (unless (is_new realm.state) error_realm (run_refusal (are_free_rows row ipa 1) (end_in row ipa 3)))
refusal_in_memory world row ready realm (acts.Unknown granule ipa) =
    unless (is_delegated_in world granule && is_protected_at ipa realm.root.width) error_input
    (run_refusal (are_free_rows row ipa 1) (end_in row ipa 3))
refusal_in_memory world row ready realm _ = None

-- the refusal, if any, of a command on a realm, given the command's operation and the granules that the operation names
abbrev pub refusal_in_realm : HostView → Option RealmRow → List ℕ → Bool → RealmAttributes → Act → Option Rmi
refusal_in_realm host row granules ready realm (acts.Rec granule auxiliaries number) = rec_refusal host realm granules
refusal_in_realm host row granules ready realm acts.Activate = state_refusal realm
refusal_in_realm host row granules ready realm (acts.Enter number) = enter_refusal realm (rec_of_number row number)
refusal_in_realm host row granules ready realm (acts.Poke number ipa offset value) =
    poke_refusal (is_protected_at ipa realm.root.width) (end_in row ipa 3) (rec_of_number row number)
refusal_in_realm host row granules ready realm act = refusal_in_memory (world_of host) row ready realm act

abbrev pub refusal_if_realm : HostView → List ℕ → Bool → Act → Option RealmRow → Option Rmi
refusal_if_realm host granules ready act (Some realm) = refusal_in_realm host (Some realm) granules ready (attributes_of realm) act
refusal_if_realm host granules ready act None = Some error_input

-- the refusal, if any, of the RMM call for an operation, given the granules that the operation names, and the realm of
-- its build
abbrev pub call_refusal : HostView → Option RealmRow → List ℕ → Bool → Act → Option Rmi
call_refusal host row granules ready (acts.Fill granule value) = None
call_refusal host row granules ready (acts.Peek granule offset byte) = None
call_refusal host row granules ready (acts.Exit number) = None
call_refusal host row granules ready (acts.Delegate granule) = unless ready error_input None
call_refusal host row granules ready (acts.Realm rd root vmid) = realm_refusal host root granules
call_refusal host row granules ready act = refusal_if_realm host granules ready act row

-- ---- commands

-- the refusal of a command that has no operation: none for a Take, and RMI_ERROR_INPUT for any other command
abbrev pub refusal_without_act : Cmd → Option Rmi
refusal_without_act (Take order) = None
refusal_without_act _ = Some error_input

abbrev pub refusal_of_act : HostView → Option RealmRow → List ℕ → Bool → Cmd → Option Act → Option Rmi
refusal_of_act host row granules ready cmd (Some act) = call_refusal host row granules ready act
refusal_of_act host row granules ready cmd None = refusal_without_act cmd

abbrev pub else : Option Refusal → Option Refusal → Option Refusal
else (Some refusal) rest = Some refusal
else None rest = rest

-- The refusal, if any, that the model gives to a command that has passed the host's own checks.
abbrev pub model_refusal : HostView → ℕ → List ℕ → Cmd → Option Act → Option Refusal
model_refusal host build granules cmd act =
    else (refused_before host build cmd) (option_map refusal.Rmi (refusal_of_act host (row_of (world_of host) build) granules (is_host_page_undelegated host build cmd) cmd act))
