-- The states of realms, the halves of their address spaces, and their starting tables. RMM 1.0, Realm attributes.
use Rattle.std.specs.Prelude.{true, false, ℕ, [], ◌+◌, ◌-◌, ◌*◌, ◌/◌, ◌^◌, ◌≤◌, ◌==◌, ◌&&◌, Bool, not, nat_le, nat_lt, List}
use Rattle.rmi_abi.specs.declared.hash.HashAlgorithm.TheVariants.{Sha256}
use Rattle.rmm_model.specs.declared.realm.RmmRealm.{RmmRealm}
use Rattle.rmm_model.specs.declared.realm.RmmRealmState.{RmmRealmState}
use Rattle.rmm_model.specs.declared.realm.RmmRealmState.TheVariants.{New}
use Rattle.rmm_model.specs.Level.{entry_size}

-- the placeholder realm that is used if a granule is not an RD, as after a failed check
abbrev pub no_realm : RmmRealm
no_realm = record { state = New; hash = Sha256; rim = []; s2sz = 0; start_level = 0; first_table = 0; table_count = 0; vmid = 0; next_rec = 0; rec_count = 0 }

abbrev pub is_new : RmmRealmState → Bool
is_new New = true
is_new _ = false

-- the realm with the given measurement in place of its own
abbrev pub with_rim : RmmRealm → List ℕ → RmmRealm
with_rim realm rim = record realm { rim = rim }

-- the address is in the realm's address space
abbrev pub is_in_space : RmmRealm → ℕ → Bool
is_in_space realm ipa = nat_lt ipa (2 ^ realm.s2sz)

-- the address is in the lower half of the realm's address space
abbrev pub is_protected : RmmRealm → ℕ → Bool
is_protected realm ipa = nat_lt ipa (2 ^ (realm.s2sz - 1))

-- the address is in the upper half of the realm's address space
abbrev pub is_unprotected : RmmRealm → ℕ → Bool
is_unprotected realm ipa = not (is_protected realm ipa) && is_in_space realm ipa

-- ---- starting tables

-- the number of starting tables that an address space of the given width needs at the given level
unfoldable pub start_count : ℕ → ℕ → ℕ
start_count s2sz level = (2 ^ s2sz + (512 * entry_size level - 1)) / (512 * entry_size level)

-- The starting level and the number of starting tables are valid for an IPA width. The tables are as many as the width
-- needs, at most 16, and the address space is larger than one entry of the level.
unfoldable pub is_start : ℕ → ℕ → ℕ → Bool
is_start s2sz level count = nat_le level 3 && nat_lt (entry_size level) (2 ^ s2sz) && nat_le count 16 && count == start_count s2sz level

-- The starting tables of a realm are in a machine of `count` granules, and cover the realm's address space. The counts,
-- the level and the width are within limits.
pub record IsServed (count : ℕ) (realm : RmmRealm) : Type 0 where
  pub few : count ≤ 4096
  pub inside : realm.first_table + realm.table_count ≤ count
  pub most : realm.table_count ≤ 16
  pub level : realm.start_level ≤ 3
  pub width : realm.s2sz ≤ 48
  pub served : 2 ^ realm.s2sz ≤ realm.table_count * (512 * entry_size realm.start_level)
