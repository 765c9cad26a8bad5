-- Walks of a realm's translation tables, and the next live entry in the table at which a walk ends. RMM 1.0, RttWalk
-- and RttSkipNonLiveEntries.
use Rattle.std.specs.Prelude.{ℕ, zero, suc, ◌+◌, ◌-◌, ◌*◌, ◌/◌, ◌==◌, Bool, cond, Option, Some, None, if◌then◌else◌}
use Rattle.std.specs.Option.{option_map_or}
use Rattle.rmm_model.specs.declared.entry.RmmRttEntry.{RmmRttEntry}
use Rattle.rmm_model.specs.declared.entry.RmmRttEntry.TheVariants.{Assigned, Table}
use Rattle.rmm_model.specs.declared.realm.RmmRealm.{RmmRealm}
use Rattle.rmm_model.specs.declared.realm.RttWalk.{RttWalk}
use Rattle.rmm_model.specs.Entry.{entry_word}
use Rattle.rmm_model.specs.Level.{entry_size, entry_index, start_table_index}
use Rattle.rmm_model.specs.Machine.{Machine, page_in, is_inside, number_of, with_word}
use Rattle.rmm_model.specs.Table.{entry_in_page, first_live_from}

-- the entry that covers an IPA, in the table that a walk found
unfoldable pub entry_at : Machine → RttWalk → ℕ → RmmRttEntry
entry_at m found ipa = entry_in_page (page_in m found.table) (entry_index found.level ipa)

-- the machine after the entry that covers an IPA is replaced
abbrev pub with_entry : Machine → RttWalk → ℕ → RmmRttEntry → Machine
with_entry m found ipa entry = with_word m found.table (entry_index found.level ipa) (entry_word entry)

-- the number of the granule that contains an address, if the machine has such a granule
unfoldable pub granule_named : Machine → ℕ → Option ℕ
granule_named m address = cond (is_inside m address) (Some (number_of m address)) None

-- the granule of the table that a TABLE entry leads to, if the machine has it; `None` for any other entry
abbrev pub table_below : Machine → RmmRttEntry → Option ℕ
table_below m (Table address) = granule_named m address
table_below m _ = None

-- the granule that an ASSIGNED entry leads to, if the machine has it; `None` for any other entry
abbrev pub memory_below : Machine → RmmRttEntry → Option ℕ
memory_below m (Assigned ripas address) = granule_named m address
memory_below m _ = None

-- ---- walks

-- The end of a walk that goes on from a table for at most the given number of levels. The walk ends at the first entry
-- that leads to no table of the machine.
unfoldable pub walk_from : Machine → ℕ → ℕ → RttWalk → RttWalk
walk_from m ipa zero found = found
walk_from m ipa (suc levels) found =
    option_map_or (λ table. walk_from m ipa levels (record { table = table; level = found.level + 1 })) (table_below m (entry_at m found ipa)) found

-- the starting table that serves an IPA, with its level
unfoldable pub start_of : RmmRealm → ℕ → RttWalk
start_of realm ipa = record { table = realm.first_table + start_table_index realm.start_level ipa; level = realm.start_level }

-- The table and the level at which an IPA's walk towards a given level ends.
unfoldable pub walk : Machine → RmmRealm → ℕ → ℕ → RttWalk
walk m realm ipa level = walk_from m ipa (level - realm.start_level) (start_of realm ipa)

-- ---- tops

-- The IPA at which entry `live` of a table begins, given an IPA that entry `i` covers. If `live` is `i`, the result is
-- the given IPA, aligned down if `aligns`.
unfoldable pub top_at : Bool → ℕ → ℕ → ℕ → ℕ → ℕ
top_at aligns level ipa i live =
    if live == i then cond aligns (ipa / entry_size level * entry_size level) ipa else (ipa / entry_size level + (live - i)) * entry_size level

-- The IPA of the first live entry at or after an IPA, in the table where a walk ended, or of that table's end if there
-- is none. If the IPA's own entry is live, the result is that IPA, aligned down if the settings say so.
unfoldable pub top : Machine → RttWalk → ℕ → ℕ
top m found ipa =
    let i = entry_index found.level ipa in
    top_at m.settings.aligns_live_top found.level ipa i (first_live_from (page_in m found.table) i)
