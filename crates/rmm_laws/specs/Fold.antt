-- The condition that an entry can replace a table, and the condition that two machines have the same table entries. RMM
-- 1.0, RMI_RTT_CREATE and RMI_RTT_FOLD.
use Rattle.std.specs.Prelude.{◌≡◌, ◌≢◌, ℕ, ◌<◌, true}
use Rattle.rmm_model.specs.declared.entry.RmmRttEntry.{RmmRttEntry}
use Rattle.rmm_model.specs.declared.granule.RmmGranuleState.TheVariants.{Rtt}
use Rattle.rmm_model.specs.Entry.{is_mapping}
use Rattle.rmm_model.specs.Machine.{Machine, granule_at, page_in}
use Rattle.rmm_model.specs.Table.{entry_in_page}
use Rattle.rmm_model.specs.Command.RttFold.{is_aligned_above}

-- an entry can replace a table of a level: if it is a mapping, its memory is aligned, and blocks are allowed one level
-- up
abbrev pub CanReplaceTable : Machine → RmmRttEntry → ℕ → Type 0
CanReplaceTable m entry level = (is_aligned_above entry level ≡ true) × (is_mapping entry ≡ true → m.settings.block_level < level)

-- Two machines have the same settings, VMIDs in use, granule attributes and table entries. The page of each granule
-- that is no table is the same too.
pub record IsAlike (m n : Machine) : Type 0 where
  pub settings : n.settings ≡ m.settings
  pub vmids : n.vmids ≡ m.vmids
  pub granules : (granule : ℕ) → granule_at n granule ≡ granule_at m granule
  pub entries : (table i : ℕ) → (granule_at m table).state ≡ Rtt → i < 512 → entry_in_page (page_in n table) i ≡ entry_in_page (page_in m table) i
  pub pages : (granule : ℕ) → (granule_at m granule).state ≢ Rtt → page_in n granule ≡ page_in m granule
