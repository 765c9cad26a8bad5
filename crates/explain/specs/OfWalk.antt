-- The checks of the level and the entry at which an RTT walk ends. RMM 1.0, RTT walk, RMI_ERROR_RTT.
use Rattle.std.specs.Prelude.{ℕ, ◌+◌, ◌==◌, nat_le, ◌&&◌, Bool, true, false, not, Option, Some, is_none, option_map, option_and_then, unwrap_or}
use Rattle.std.specs.List.{list_all, range_with_len}
use Rattle.realm_model.specs.Command.Check.{error_rtt}
use Rattle.realm_model.specs.declared.states.EntryState.{EntryState}
use Rattle.realm_model.specs.declared.states.EntryState.TheVariants.{Unassigned, Assigned, Table}
use Rattle.host_commands.specs.declared.refusal.Refusal.TheVariants.{Rmi}
use Rattle.host_ledger.specs.View.{HostView, world_of}
use Rattle.realm_host.specs.Readings.{row_at}
use Rattle.realm_host.specs.declared.reading.RowView.{RowView}
use Rattle.explain.specs.OfInput.{input_check}
use Rattle.explain.specs.declared.rmi_facts.WalkFact.{WalkFact}
use Rattle.explain.specs.declared.rmi_facts.WalkFact.TheVariants as walk
use Rattle.explain.specs.declared.check.Fact.TheVariants as fact
use Rattle.explain.specs.declared.check.Check.{Check}

abbrev pub rtt_check : WalkFact → Bool → ℕ → Check
rtt_check asks fails level = record { fact = fact.Walk asks; fails = fails; refusal = Rmi (error_rtt level) }

-- ---- the level, the state and the granule of the row at which a walk ends

-- the level of the row at which a walk ends; 0 if there is no such row
abbrev pub level_of : Option RowView → ℕ
level_of row = unwrap_or (option_map (λ (r : RowView). r.level) row) 0

abbrev pub state_of : Option RowView → Option EntryState
state_of row = option_map (λ (r : RowView). r.entry.state) row

abbrev pub granule_of_row : Option RowView → Option ℕ
granule_of_row row = option_and_then (λ (r : RowView). r.entry.granule) row

abbrev pub is_unassigned_entry : Option EntryState → Bool
is_unassigned_entry (Some Unassigned) = true
is_unassigned_entry _ = false

abbrev pub is_assigned_entry : Option EntryState → Bool
is_assigned_entry (Some Assigned) = true
is_assigned_entry _ = false

abbrev pub is_table_entry : Option EntryState → Bool
is_table_entry (Some Table) = true
is_table_entry _ = false

-- ---- checks of the row at which the walk of an IPA granule ends, in the realm of a build

-- the check that the walk of an IPA granule towards a level ends at that level
abbrev pub walk_ends : HostView → ℕ → ℕ → ℕ → Check
walk_ends host build ipa to =
    let ended = level_of (row_at (world_of host) build ipa to) in
    rtt_check (walk.Walk ipa to ended) (not (ended == to)) ended

abbrev pub entry_unassigned : HostView → ℕ → ℕ → Check
entry_unassigned host build ipa =
    let row = row_at (world_of host) build ipa 3 in
    rtt_check (walk.Entry (level_of row) Unassigned (state_of row)) (not (is_unassigned_entry (state_of row))) (level_of row)

abbrev pub entry_assigned : HostView → ℕ → ℕ → Check
entry_assigned host build ipa =
    let row = row_at (world_of host) build ipa 3 in
    rtt_check (walk.Entry (level_of row) Assigned (state_of row)) (not (is_assigned_entry (state_of row))) (level_of row)

abbrev pub entry_no_table : HostView → ℕ → ℕ → ℕ → Check
entry_no_table host build ipa to =
    let row = row_at (world_of host) build ipa to in
    rtt_check (walk.NoTable (level_of row) (state_of row)) (is_table_entry (state_of row)) (level_of row)

abbrev pub entry_leads : HostView → ℕ → ℕ → Check
entry_leads host build ipa =
    let granule = granule_of_row (row_at (world_of host) build ipa 3) in
    input_check (fact.Walk (walk.Leads granule)) (is_none granule)

-- the walk of an IPA granule towards level 3 ends at an UNASSIGNED entry
abbrev pub is_free_entry : HostView → ℕ → ℕ → Bool
is_free_entry host build ipa = is_unassigned_entry (state_of (row_at (world_of host) build ipa 3))

-- for each of `count` IPA granules, from `ipa` on, the walk towards level 3 ends at an UNASSIGNED entry
abbrev pub are_free : HostView → ℕ → ℕ → ℕ → Bool
are_free host build ipa count = list_all (is_free_entry host build) (range_with_len ipa count)

abbrev pub entries_free : HostView → ℕ → ℕ → ℕ → Check
entries_free host build ipa count =
    rtt_check (walk.Free ipa count) (not (nat_le (ipa + count) 4294967296 && are_free host build ipa count)) 3
