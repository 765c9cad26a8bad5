-- The limits of a machine, and the attributes of its granules, realms and RECs. RMM 1.0, Granule, Realm and REC
-- attributes.
use Rattle.std.specs.Prelude.{ℕ, List, map, Option, Some, None, slice_index_or}
use Rattle.std.specs.FinMap.{FinMap}
use Rattle.std.specs.Ordering.{nat_cmp}
use Rattle.granule_addr.specs.Page.{zero_page}
use Rattle.granule_addr.specs.declared.width.Root.{Root}
use Rattle.realm_model.specs.declared.states.GranuleState.{GranuleState}
use Rattle.realm_model.specs.declared.states.GranuleState.TheVariants.{Undelegated, Delegated}
use Rattle.realm_model.specs.declared.states.RealmState.{RealmState}
use Rattle.realm_model.specs.declared.states.RecState.{RecState}
use Rattle.realm_model.specs.Rows.{Rows}

-- The limits of a machine, which are its numbers of granules, VMIDs, auxiliary granules for each REC, and builds.
pub record Limits : Type 0 where
  pub pages : ℕ
  pub vmids : ℕ
  pub aux : ℕ
  pub builds : ℕ

-- The granule, the auxiliary granules and the state of a REC. RMM 1.0, REC attributes.
pub record RecRow : Type 0 where
  pub granule : ℕ
  pub auxiliaries : List ℕ
  pub state : RecState

-- The attributes of a realm: state, VMID, starting tables and IPA width, next REC number, measurement, RECs by number,
-- and translation. RMM 1.0, Realm attributes.
pub record RealmRow : Type 0 where
  pub state : RealmState
  pub vmid : ℕ
  pub root : Root
  pub next : ℕ
  pub measurement : List ℕ
  pub recs : FinMap nat_cmp RecRow
  pub rows : Rows

-- The state of a granule, the RD of the realm that it belongs to, its bytes, and, if it is an RD, the attributes of its
-- realm. The attributes of a realm are in the cell of its RD granule, and in no other. The bytes of a table, an RD or a
-- REC count as zero.
pub record Cell : Type 0 where
  pub state : GranuleState
  pub realm : Option ℕ
  pub bytes : List ℕ
  pub descriptor : Option RealmRow

-- an UNDELEGATED granule that belongs to no realm; all its bytes are zero
abbrev pub blank : Cell
blank = record { state = Undelegated; realm = None; bytes = zero_page; descriptor = None }

-- a DELEGATED granule that belongs to no realm, as after it leaves a realm or is delegated; all its bytes are zero
abbrev pub left : Cell
left = record { state = Delegated; realm = None; bytes = zero_page; descriptor = None }

-- a granule in this state that belongs to the realm with this RD; all its bytes are zero
abbrev pub held : GranuleState → ℕ → Cell
held state rd = record { state = state; realm = Some rd; bytes = zero_page; descriptor = None }

-- A machine, as the list of the cells of its granules.
abbrev pub Machine : Type 0
Machine = List Cell

abbrev pub cell_at : Machine → ℕ → Cell
cell_at machine granule = slice_index_or machine granule blank

-- A granule as a command gets it, with its number and its cell.
pub record Seen : Type 0 where
  pub number : ℕ
  pub cell : Cell

abbrev pub seen : Machine → ℕ → Seen
seen machine granule = record { number = granule; cell = cell_at machine granule }

abbrev pub numbers_of : List Seen → List ℕ
numbers_of seen = map (λ g. g.number) seen
