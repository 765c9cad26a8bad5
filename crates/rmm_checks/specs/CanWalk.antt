-- The condition under which a walk of translation tables can be made, and the bytes of the table to which an entry
-- leads.
use Rattle.std.specs.Prelude.{ℕ, ◌&&◌, Bool, nat_le, List, is_some, unwrap_or}
use Rattle.rmm_model.specs.declared.entry.RmmRttEntry.{RmmRttEntry}
use Rattle.rmm_model.specs.Granule.{realm_of}
use Rattle.rmm_model.specs.Machine.{Machine, page_in, state_at}
use Rattle.rmm_model.specs.Realm.{is_in_space}
use Rattle.rmm_model.specs.Walk.{table_below}
use Rattle.rmm_model.specs.Command.Operand.{realm_at}

-- the granule at `rd` is an RD, the level is at most 3, and the IPA is in the address space of the RD's realm
abbrev pub can_walk : Machine → ℕ → ℕ → ℕ → Bool
can_walk m rd ipa level = is_some (realm_of (state_at m rd)) && (nat_le level 3 && is_in_space (realm_at m rd) ipa)

-- the bytes of the table that an entry leads to, or of granule 0 if it leads to no table
abbrev pub page_below : Machine → RmmRttEntry → List ℕ
page_below m entry = page_in m (unwrap_or (table_below m entry) 0)
