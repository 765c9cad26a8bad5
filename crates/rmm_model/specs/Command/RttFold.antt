-- The command RMI_RTT_FOLD: its checks, its answer and its effect.
use Rattle.std.specs.Prelude.{ℕ, ◌+◌, ◌-◌, ◌*◌, ◌/◌, ◌&&◌, ◌||◌, Bool, not, nat_le, List, [], ◌∷◌, ◌++◌, is_some, unwrap_or}
use Rattle.rmi_abi.specs.declared.settings.RmmSettings.{RmmSettings}
use Rattle.rmm_model.specs.declared.condition.Condition.TheVariants.{RtteState, RttHomo, RttBlock}
use Rattle.rmm_model.specs.declared.entry.RmmRttEntry.{RmmRttEntry}
use Rattle.rmm_model.specs.declared.granule.RmmGranuleState.TheVariants.{Delegated}
use Rattle.rmm_model.specs.declared.realm.RttWalk.{RttWalk as Walked}
use Rattle.rmm_model.specs.Check.{Command, Check, check, success, error_rtt}
use Rattle.rmm_model.specs.Entry.{descriptor_of, is_table, is_mapping}
use Rattle.rmm_model.specs.Level.{entry_size}
use Rattle.rmm_model.specs.Machine.{Machine, page_in, with_blank}
use Rattle.rmm_model.specs.Table.{entry_in_page, has_parts}
use Rattle.rmm_model.specs.Walk.{entry_at, with_entry, table_below, walk}
use Rattle.rmm_model.specs.Command.Operand.{rd_checks, realm_at, is_multiple, ipa_checks, entry_checks}

-- if an entry leads to a page or a block, the address of the page or block is aligned to an entry of the level above
abbrev pub is_aligned_above : RmmRttEntry → ℕ → Bool
is_aligned_above entry level = not (is_mapping entry) || is_multiple (descriptor_of entry / 4096 * 4096) (entry_size (level - 1))

-- A table is homogeneous: its entries are the children that its first entry would have if that entry were one level up.
-- The first entry leads to no table. If the first entry is a mapping, the address to which it leads is aligned to an
-- entry of the level above.
unfoldable pub is_homogeneous : List ℕ → ℕ → Bool
is_homogeneous page level =
    let first = entry_in_page page 0 in
    not (is_table first) && is_aligned_above first level && has_parts page first level 512 0

-- folding a table would create a block at a level that does not allow blocks
abbrev pub is_block_too_high : RmmSettings → List ℕ → ℕ → Bool
is_block_too_high s page level = is_mapping (entry_in_page page 0) && nat_le level s.block_level

-- checks that a walk reached the parent entry of a homogeneous table that may be folded
abbrev pub fold_checks : Machine → Walked → RmmRttEntry → ℕ → List Check
fold_checks m found parent level =
    entry_checks [] found (level - 1) (is_some (table_below m parent)) error_rtt
    ++ check RttHomo (RtteState ∷ []) (not (is_homogeneous (page_in m (unwrap_or (table_below m parent) 0)) level)) (error_rtt level)
    ∷ check RttBlock (RttHomo ∷ []) (is_block_too_high m.settings (page_in m (unwrap_or (table_below m parent) 0)) level) (error_rtt (level - 1)) ∷ []

-- A homogeneous table is replaced by one entry of the level above, and the table's granule becomes DELEGATED. RMM 1.0,
-- RMI_RTT_FOLD.
unfoldable pub rtt_fold : ℕ → ℕ → ℕ → Machine → Command
rtt_fold rd ipa level m =
    let realm = realm_at m rd in
    let found = walk m realm ipa (level - 1) in
    let parent = entry_at m found ipa in
    let table = unwrap_or (table_below m parent) 0 in
    record {
      checks = rd_checks m rd ++ ipa_checks realm (realm.start_level + 1) level 1 ipa ++ fold_checks m found parent level;
      answer = record success { x1 = descriptor_of parent };
      machine = with_blank (with_entry m found ipa (entry_in_page (page_in m table) 0)) table Delegated;
    }
