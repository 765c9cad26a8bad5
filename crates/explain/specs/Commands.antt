-- The checks that the host, the page store and the RMM perform on each command, in sequence. RMM 1.0, RMI commands.
use Rattle.std.specs.Prelude.{ℕ, ◌==◌, nat_le, List, [], ◌∷◌, ◌++◌, if◌then◌else◌}
use Rattle.std.specs.List.{filter_map}
use Rattle.host_commands.specs.declared.cmd.Cmd.{Cmd}
use Rattle.host_commands.specs.declared.cmd.Cmd.TheVariants.{Take, Fill, Peek, Delegate, Realm, Rtt, Ripas, Data, Unknown, Rec, Activate, Enter, Exit, Poke}
use Rattle.host_ledger.specs.View.{HostView, granule_of_page}
use Rattle.explain.specs.Pages.{pages_named}
use Rattle.explain.specs.OfBuild.{needs_checks}
use Rattle.explain.specs.OfBlock.{block_check}
use Rattle.explain.specs.OfInput.{page_delegated, page_undelegated, protected, table_level, table_start, run_count, one_table}
use Rattle.explain.specs.OfRealm.{realm_new, realm_active, realm_create_checks}
use Rattle.explain.specs.OfRec.{rec_create_checks, rec_there, rec_ready, rec_is_running}
use Rattle.explain.specs.OfWalk.{walk_ends, entry_unassigned, entry_assigned, entry_no_table, entry_leads, entries_free}
use Rattle.explain.specs.declared.check.Check.{Check}

-- ---- the checks of the page store and the RMM, command by command

-- the page store's check of a Take, that a block of this order is free; none if the order is above 9
abbrev pub take_checks : HostView → ℕ → List Check
take_checks host order = if nat_le order 9 then block_check host order ∷ [] else []

-- the level of the table that leads to a table of this level: 2 for level 3, else 1
abbrev pub above_of : ℕ → ℕ
above_of level = if level == 3 then 2 else 1

abbrev pub rtt_create_checks : HostView → ℕ → ℕ → ℕ → ℕ → List Check
rtt_create_checks host build page ipa level =
    page_delegated host build page ∷ table_level level ∷ table_start ipa level ∷ protected host build ipa
    ∷ walk_ends host build ipa (above_of level) ∷ entry_no_table host build ipa (above_of level) ∷ []

abbrev pub init_ripas_checks : HostView → ℕ → ℕ → ℕ → List Check
init_ripas_checks host build ipa count =
    run_count count ∷ one_table ipa count ∷ protected host build ipa ∷ realm_new host build
    ∷ walk_ends host build ipa 3 ∷ entries_free host build ipa count ∷ []

abbrev pub data_create_checks : HostView → ℕ → ℕ → ℕ → ℕ → List Check
data_create_checks host build page ipa source =
    page_delegated host build page ∷ page_undelegated host build source ∷ protected host build ipa ∷ realm_new host build
    ∷ walk_ends host build ipa 3 ∷ entry_unassigned host build ipa ∷ []

abbrev pub unknown_checks : HostView → ℕ → ℕ → ℕ → List Check
unknown_checks host build page ipa =
    page_delegated host build page ∷ protected host build ipa ∷ walk_ends host build ipa 3 ∷ entry_unassigned host build ipa ∷ []

abbrev pub enter_checks : HostView → ℕ → ℕ → List Check
enter_checks host build number = rec_there host build number ∷ realm_active host build ∷ rec_ready host build number ∷ []

abbrev pub exit_checks : HostView → ℕ → ℕ → List Check
exit_checks host build number = rec_there host build number ∷ rec_is_running host build number ∷ []

abbrev pub guest_write_checks : HostView → ℕ → ℕ → ℕ → List Check
guest_write_checks host build number ipa =
    rec_there host build number ∷ protected host build ipa ∷ rec_is_running host build number
    ∷ entry_assigned host build ipa ∷ entry_leads host build ipa ∷ []

-- ---- the table

-- the RMM's checks of a command on an existing REC; none for any other command
abbrev pub recs_checks : HostView → ℕ → Cmd → List Check
recs_checks host build (Enter number) = enter_checks host build number
recs_checks host build (Exit number) = exit_checks host build number
recs_checks host build (Poke number ipa offset value) = guest_write_checks host build number ipa
recs_checks host build _ = []

-- the RMM's checks of a command on a realm's tables, pages, state or existing RECs; none for any other command
abbrev pub tables_checks : HostView → ℕ → Cmd → List Check
tables_checks host build (Rtt page ipa level) = rtt_create_checks host build page ipa level
tables_checks host build (Ripas ipa count) = init_ripas_checks host build ipa count
tables_checks host build (Data page ipa source) = data_create_checks host build page ipa source
tables_checks host build (Unknown page ipa) = unknown_checks host build page ipa
tables_checks host build Activate = realm_new host build ∷ []
tables_checks host build cmd = recs_checks host build cmd

-- the page store's checks of a Take, or the RMM's checks of any other command, given the command's pages and their
-- granules
abbrev pub monitor_checks : HostView → ℕ → Cmd → List ℕ → List ℕ → List Check
monitor_checks host build (Take order) pages granules = take_checks host order
monitor_checks host build (Fill page value) pages granules = page_undelegated host build page ∷ []
monitor_checks host build (Peek page offset) pages granules = page_undelegated host build page ∷ []
monitor_checks host build (Delegate page) pages granules = page_undelegated host build page ∷ []
monitor_checks host build (Realm rd root width) pages granules = realm_create_checks host build width pages granules
monitor_checks host build (Rec page auxiliaries) pages granules = rec_create_checks host build pages granules
monitor_checks host build cmd pages granules = tables_checks host build cmd

-- all checks of a command: first the host's own, then those of the page store or the RMM
unfoldable pub command_checks : HostView → ℕ → Cmd → List Check
command_checks host build cmd =
    needs_checks host build cmd (pages_named cmd)
    ++ monitor_checks host build cmd (pages_named cmd) (filter_map (granule_of_page host build) (pages_named cmd))
