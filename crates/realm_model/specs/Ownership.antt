-- The ownership in a world, which is everything except bytes, RIPAS, measurements, next REC numbers, and the states of
-- realms and RECs.
use Rattle.std.specs.Prelude.{◌≡◌, ℕ, List, Option, Some, None, option_map}
use Rattle.std.specs.FinMap.{get}
use Rattle.realm_model.specs.declared.states.EntryState.{EntryState}
use Rattle.realm_model.specs.Rows.{Row}
use Rattle.realm_model.specs.Machine.{RecRow, RealmRow, Cell, cell_at}
use Rattle.realm_model.specs.World.{World}

-- the granules of a REC
abbrev pub granules_of_rec : RecRow → ℕ × List ℕ
granules_of_rec rec = (rec.granule, rec.auxiliaries)

-- A row without its RIPAS: the state of the entry, and the granule that it leads to.
pub record Mapping : Type 0 where
  pub state : EntryState
  pub granule : Option ℕ

abbrev pub mapping : EntryState → Option ℕ → Mapping
mapping state granule = record { state = state; granule = granule }

abbrev pub mapping_of_row : Row → Mapping
mapping_of_row row = mapping row.state row.granule

-- Two realms have the same VMID, starting tables, IPA width and mappings, and RECs with the same numbers and granules.
pub record SameRealm (r s : RealmRow) : Type 0 where
  pub vmid : r.vmid ≡ s.vmid
  pub root : r.root ≡ s.root
  pub recs : (number : ℕ) → option_map granules_of_rec (get r.recs number) ≡ option_map granules_of_rec (get s.recs number)
  pub rows : (place : ℕ × ℕ) → option_map mapping_of_row (get r.rows place) ≡ option_map mapping_of_row (get s.rows place)

abbrev pub SameDescriptor : Option RealmRow → Option RealmRow → Type 0
SameDescriptor None None = Unit {0}
SameDescriptor None (Some s) = ⊥
SameDescriptor (Some r) None = ⊥
SameDescriptor (Some r) (Some s) = SameRealm r s

pub record SameCell (c d : Cell) : Type 0 where
  pub state : c.state ≡ d.state
  pub realm : c.realm ≡ d.realm
  pub descriptor : SameDescriptor c.descriptor d.descriptor

-- Each granule has the same lease, state and realm in both worlds, and each realm is the same by `SameRealm`.
pub record OwnsSame (w v : World) : Type 0 where
  pub leases : w.leases ≡ v.leases
  pub cells : (granule : ℕ) → SameCell (cell_at w.machine granule) (cell_at v.machine granule)
