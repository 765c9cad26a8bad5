-- Checks that fail with RMI_ERROR_INPUT, on pages, IPA granules, levels and counts. RMM 1.0, RMI command conditions.
use Rattle.std.specs.Prelude.{ℕ, ◌+◌, ◌-◌, ◌/◌, ◌%◌, ◌==◌, nat_le, Bool, true, false, not, ◌&&◌, ◌||◌, Option, Some, option_map, unwrap_or, if◌then◌else◌}
use Rattle.granule_addr.specs.Ipa.{is_protected_at}
use Rattle.realm_model.specs.Machine.{RealmRow, cell_at}
use Rattle.realm_model.specs.Command.Check.{error_input}
use Rattle.realm_model.specs.declared.states.GranuleState.{GranuleState}
use Rattle.realm_model.specs.declared.states.GranuleState.TheVariants.{Undelegated, Delegated}
use Rattle.host_commands.specs.declared.refusal.Refusal.TheVariants.{Rmi}
use Rattle.host_ledger.specs.View.{HostView, world_of, granule_of_page}
use Rattle.realm_host.specs.Readings.{row_of}
use Rattle.explain.specs.declared.rmi_facts.InputFact.TheVariants as input
use Rattle.explain.specs.declared.check.Fact.{Fact}
use Rattle.explain.specs.declared.check.Fact.TheVariants as fact
use Rattle.explain.specs.declared.check.Check.{Check}

abbrev pub input_check : Fact → Bool → Check
input_check asks fails = record { fact = asks; fails = fails; refusal = Rmi error_input }

-- ---- pages

-- the state of the granule of a build's page, if the build has the page
abbrev pub state_of_page : HostView → ℕ → ℕ → Option GranuleState
state_of_page host build page = option_map (λ g. (cell_at (world_of host).machine g).state) (granule_of_page host build page)

abbrev pub is_delegated_state : Option GranuleState → Bool
is_delegated_state (Some Delegated) = true
is_delegated_state _ = false

abbrev pub is_undelegated_state : Option GranuleState → Bool
is_undelegated_state (Some Undelegated) = true
is_undelegated_state _ = false

-- the check of a page's state, given the page, the state found, the state required, and whether the check fails
abbrev pub page_check : ℕ → Option GranuleState → GranuleState → Bool → Check
page_check page found wanted fails = input_check (fact.Input (input.Page page wanted found)) fails

abbrev pub page_delegated : HostView → ℕ → ℕ → Check
page_delegated host build page =
    input_check (fact.Input (input.Page page Delegated (state_of_page host build page))) (not (is_delegated_state (state_of_page host build page)))

abbrev pub page_undelegated : HostView → ℕ → ℕ → Check
page_undelegated host build page =
    input_check (fact.Input (input.Page page Undelegated (state_of_page host build page))) (not (is_undelegated_state (state_of_page host build page)))

-- ---- IPAs

-- the IPA width of a build's realm; 0 if the build has no realm
abbrev pub width_of : HostView → ℕ → ℕ
width_of host build = unwrap_or (option_map (λ (realm : RealmRow). realm.root.width) (row_of (world_of host) build)) 0

abbrev pub protected : HostView → ℕ → ℕ → Check
protected host build ipa = input_check (fact.Input (input.Protected ipa (width_of host build))) (not (is_protected_at ipa (width_of host build)))

-- the check that the level of a new table is 2 or 3
abbrev pub table_level : ℕ → Check
table_level level = input_check (fact.Input (input.Level level)) (not (level == 2 || level == 3))

-- the check that the first IPA granule of a new table is aligned for the table's level
abbrev pub table_start : ℕ → ℕ → Check
table_start ipa level = input_check (fact.Input (input.Start ipa level)) (not (ipa % (if level == 2 then 262144 else 512) == 0))

-- the check that the number of IPA granules whose RIPAS is set to RAM is from 1 to 512
abbrev pub run_count : ℕ → Check
run_count count = input_check (fact.Input (input.Count count)) (not (nat_le 1 count && nat_le count 512))

-- the check that one table of level 3 covers the `count` IPA granules from `ipa` on
abbrev pub one_table : ℕ → ℕ → Check
one_table ipa count = input_check (fact.Input (input.OneTable ipa count)) (not (ipa / 512 == (ipa + count - 1) / 512))
