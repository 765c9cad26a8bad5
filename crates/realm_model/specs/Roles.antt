-- The roles of granules in a realm, and the granule state of each role.
use Rattle.std.specs.Prelude.{◌≡◌, ℕ, List, Bool, true, false, Option, Some, None, option_map, slice_get}
use Rattle.std.specs.FinMap.{get}
use Rattle.granule_addr.specs.Root.{starting_tables}
use Rattle.granule_addr.specs.declared.width.Root.{Root}
use Rattle.realm_model.specs.declared.states.GranuleState.{GranuleState}
use Rattle.realm_model.specs.declared.states.GranuleState.TheVariants.{Undelegated, Delegated, Rd, Rec as InRec, RecAux, Data as InData, Rtt as InRtt}
use Rattle.realm_model.specs.declared.states.EntryState.{EntryState}
use Rattle.realm_model.specs.declared.states.EntryState.TheVariants.{Unassigned, Assigned, Table}
use Rattle.realm_model.specs.Machine.{RealmRow, Cell}
use Rattle.realm_model.specs.Ownership.{Mapping, granules_of_rec}
use Rattle.realm_model.specs.Sound.{mapping_at}

-- A role of a granule in a realm: a starting table, the target of a row, a REC, or an auxiliary granule of a REC.
pub data Role : Type 0 where
  AsStart : (index : ℕ) → Role
  AtRow : (place : ℕ × ℕ) → Role
  AsRec : (number : ℕ) → Role
  AsAux : (number : ℕ) (index : ℕ) → Role

abbrev pub kind_target : EntryState → Option ℕ → Option (ℕ × GranuleState)
kind_target Unassigned granule = None
kind_target Assigned granule = option_map (λ g. (g, InData)) granule
kind_target Table granule = option_map (λ g. (g, InRtt)) granule

abbrev pub row_target : Option Mapping → Option (ℕ × GranuleState)
row_target None = None
row_target (Some row) = kind_target row.state row.granule

abbrev pub start_target : Root → ℕ → Option (ℕ × GranuleState)
start_target root index = option_map (λ g. (g, InRtt)) (slice_get (starting_tables root) index)

abbrev pub aux_target : Option (ℕ × List ℕ) → ℕ → Option (ℕ × GranuleState)
aux_target None index = None
aux_target (Some rec) index = option_map (λ g. (g, RecAux)) (slice_get rec.1 index)

-- the granule that has a role in a realm, and the state that goes with the role; None if no granule has it
abbrev pub target : RealmRow → Role → Option (ℕ × GranuleState)
target realm (AsStart index) = start_target realm.root index
target realm (AtRow place) = row_target (mapping_at realm.rows place)
target realm (AsRec number) = option_map (λ rec. (rec.0, InRec)) (option_map granules_of_rec (get realm.recs number))
target realm (AsAux number index) = aux_target (option_map granules_of_rec (get realm.recs number)) index

-- the state is REC, REC_AUX, DATA or RTT, which are the states that go with a role
abbrev pub is_role_state : GranuleState → Bool
is_role_state Undelegated = false
is_role_state Delegated = false
is_role_state Rd = false
is_role_state _ = true

-- the granule has a role in a realm, and is in the state that goes with the role
pub record HasRole (cells : ℕ → Cell) (granule : ℕ) : Type 0 where
  pub rd : ℕ
  pub realm : RealmRow
  pub there : (cells rd).descriptor ≡ Some realm
  pub role : Role
  pub named : target realm role ≡ Some (granule, (cells granule).state)
