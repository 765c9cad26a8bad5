-- The protected and unprotected halves of a realm's address space, and the table entries in each. RMM 1.0, Realm
-- attributes, RTT entry.
use Rattle.std.specs.Prelude.{◌≡◌, true, ℕ, ◌+◌, ◌-◌, ◌*◌, ◌/◌, ◌%◌, ◌^◌, ◌<◌, ◌≤◌, Some}
use Rattle.rmi_abi.specs.declared.settings.RmmSettings.{RmmSettings}
use Rattle.rmm_model.specs.declared.entry.RmmRttEntry.{RmmRttEntry}
use Rattle.rmm_model.specs.declared.entry.RmmRttEntry.TheVariants.{Unassigned, Assigned, Table, UnassignedNs, AssignedNs}
use Rattle.rmm_model.specs.declared.granule.RmmGranuleState.TheVariants.{Rd, Rtt}
use Rattle.rmm_model.specs.declared.realm.RmmRealm.{RmmRealm}
use Rattle.rmm_model.specs.Entry.{descriptor_of, is_mapping}
use Rattle.rmm_model.specs.Granule.{of_realm}
use Rattle.rmm_model.specs.Level.{entry_size}
use Rattle.rmm_model.specs.Machine.{Machine, granule_at, page_in}
use Rattle.rmm_model.specs.Table.{entry_in_page}
use Rattle.rmm_model.specs.Walk.{table_below}

-- An entry that covers an IPA has a state that is allowed in the IPA's half of the address space. UNASSIGNED and
-- ASSIGNED are for the protected half, the NS states for the unprotected half, and TABLE is for both. A live entry is
-- inside the realm's address space.
abbrev pub IsOfHalf : RmmRealm → ℕ → RmmRttEntry → Type 0
IsOfHalf realm ipa (Unassigned ripas) = ipa < 2 ^ (realm.s2sz - 1)
IsOfHalf realm ipa (Assigned ripas address) = ipa < 2 ^ (realm.s2sz - 1)
IsOfHalf realm ipa UnassignedNs = 2 ^ (realm.s2sz - 1) ≤ ipa
IsOfHalf realm ipa (AssignedNs desc) = (2 ^ (realm.s2sz - 1) ≤ ipa) × (ipa < 2 ^ realm.s2sz)
IsOfHalf realm ipa (Table address) = ipa < 2 ^ realm.s2sz

-- A mapping is at a level that has pages or blocks, and its memory begins at a multiple of their size.
abbrev pub IsPlaced : RmmSettings → ℕ → RmmRttEntry → Type 0
IsPlaced s level e = is_mapping e ≡ true → (s.block_level ≤ level) × (descriptor_of e / 4096 * 4096 % entry_size level ≡ 0)

-- `level` and `place` give each table's level and its index, and each entry's state is allowed in its half of the
-- address space. The index is by IPA within the level. It counts from 0 for starting tables; any other table has the
-- index of the entry leading to it. Mapped memory is aligned, at a level of blocks or pages. A starting table's entry
-- covers less than the address space.
pub record IsHalved (m : Machine) (level place : ℕ → ℕ) : Type 0 where
  pub wide : (rd : ℕ) (realm : RmmRealm) → (granule_at m rd).state ≡ Rd realm → entry_size realm.start_level < 2 ^ realm.s2sz
  pub start : (rd k : ℕ) (realm : RmmRealm) → (granule_at m rd).state ≡ Rd realm → k < realm.table_count
      → (level (realm.first_table + k) ≡ realm.start_level) × (place (realm.first_table + k) ≡ k)
  pub below : (table i child : ℕ) → (granule_at m table).state ≡ Rtt → i < 512 → table_below m (entry_in_page (page_in m table) i) ≡ Some child
      → (level child ≡ level table + 1) × (place child ≡ place table * 512 + i)
  pub half : (rd table i ipa : ℕ) (realm : RmmRealm) → (granule_at m rd).state ≡ Rd realm → granule_at m table ≡ of_realm rd Rtt → i < 512
      → ipa / entry_size (level table) ≡ place table * 512 + i → IsOfHalf realm ipa (entry_in_page (page_in m table) i)
  pub block : (table i : ℕ) → (granule_at m table).state ≡ Rtt → i < 512 → IsPlaced m.settings (level table) (entry_in_page (page_in m table) i)

-- Each table can be given a level and an index such that the state of each entry is allowed in its half of the address
-- space.
pub record HasHalves (m : Machine) : Type 0 where
  pub level : ℕ → ℕ
  pub place : ℕ → ℕ
  pub is : IsHalved m level place
