-- The fields of an RMM, the machine that they represent, and their invariant.
use Rattle.std.specs.Prelude.{◌≡◌, ◌<◌, ℕ, List, length, map, count_by, Bool, true, false, nat_eq, Option, Some, None, is_some, option_map, slice_index_or, slice_get, if◌then◌else◌}
use Rattle.std.specs.List.{range_with_len}
use Rattle.std.specs.Option.{option_eq}
use Rattle.std.specs.FinMap.{FinMap, get, len}
use Rattle.std.specs.Ordering.{nat_cmp}
use Rattle.rtt.specs.Granules.{granule_at, IsIn}
use Rattle.rtt.specs.declared.granule.Granule.{Granule}
use Rattle.page_arena.specs.Page.{page_at}
use Rattle.realm_model.specs.declared.states.GranuleState.{GranuleState}
use Rattle.realm_model.specs.declared.states.GranuleState.TheVariants.{Delegated, Rec as InRec, RecAux as InRecAux, Rtt as InRtt}
use Rattle.granule_addr.specs.Page.{zero_page}
use Rattle.realm_model.specs.Machine.{Cell, Machine, RealmRow, RecRow}
use Rattle.realm_model.specs.Sound.{is_host_state, is_rd_state}
use Rattle.rmi_monitor.specs.Attributes.{RealmAttributes, RecAttributes, realm_row, rec_row}
use Rattle.rtt.specs.Tables.{rows}
use Rattle.rtt.specs.Realm.{IsBacked, HasTables}
use Rattle.rmi_monitor.specs.View.{MonitorView}
use Rattle.rmi_monitor.specs.Gathered.{gathered, IsOnce}
use Rattle.rmi_monitor.specs.Places.{is_realm_with}
use Rattle.granule_addr.specs.Vmids.{is_used}

-- The two settings of an RMM, its VMIDs in use, and its lists with one element for each granule. The lists have the
-- granule's state and realm, the bytes of its page, and whether it is free. They also have the realm whose RD it is,
-- the number of that realm's RECs, and the REC that it holds.
pub record Fields : Type 0 where
  pub vmids : ℕ
  pub aux : ℕ
  pub used : List Bool
  pub granules : List Granule
  pub pages : List (List ℕ)
  pub free : List Bool
  pub realms : List (Option RealmAttributes)
  pub rec_counts : List ℕ
  pub recs : List (Option RecAttributes)

abbrev pub fields_of : ℕ → ℕ → List Bool → List Granule → List (List ℕ) → List Bool → List (Option RealmAttributes) → List ℕ → List (Option RecAttributes) → Fields
fields_of vmids aux used granules pages free realms rec_counts recs = record {
  vmids = vmids;
  aux = aux;
  used = used;
  granules = granules;
  pages = pages;
  free = free;
  realms = realms;
  rec_counts = rec_counts;
  recs = recs;
}

-- the attributes of the realm whose RD is the granule, if there is one
abbrev pub realm_at : Fields → ℕ → Option RealmAttributes
realm_at fields rd = slice_index_or fields.realms rd None

-- the number of RECs of the realm whose RD is the granule, as the RMM keeps it
abbrev pub rec_count_at : Fields → ℕ → ℕ
rec_count_at fields rd = slice_index_or fields.rec_counts rd 0

-- the attributes of the REC that the granule holds, if it holds one
abbrev pub rec_at : Fields → ℕ → Option RecAttributes
rec_at fields granule = slice_index_or fields.recs granule None

-- ---- the machine that the fields represent

-- the granule belongs to the realm whose RD is `rd`
abbrev pub is_of_realm : List Granule → ℕ → ℕ → Bool
is_of_realm granules rd granule = option_eq nat_eq (granule_at granules granule).realm (Some rd)

-- the number and the record of the REC that the granule holds, if it holds a REC of the realm
abbrev pub rec_of : List Granule → List (Option RecAttributes) → ℕ → ℕ → Option (ℕ × RecRow)
rec_of granules recs rd granule =
    if is_of_realm granules rd granule then option_map (λ rec. (rec.number, rec_row granule rec)) (slice_index_or recs granule None) else None

-- the map from the numbers of a realm's RECs to the records of these RECs
unfoldable pub recs_of : List Granule → List (Option RecAttributes) → ℕ → FinMap nat_cmp RecRow
recs_of granules recs rd = gathered (rec_of granules recs rd) (length granules)

-- no two granules hold RECs of the realm that have the same number
abbrev pub IsNumbered : List Granule → List (Option RecAttributes) → ℕ → Type 0
IsNumbered granules recs rd = IsOnce (rec_of granules recs rd) (length granules)

-- the granule holds the realm's REC with the given number
pub record IsRecAt (granules : List Granule) (recs : List (Option RecAttributes)) (rd number granule : ℕ) : Type 0 where
  pub inside : granule < length granules
  pub row : RecRow
  pub at : rec_of granules recs rd granule ≡ Some (number, row)
  pub found : get (recs_of granules recs rd) number ≡ Some row

-- the record of the realm whose RD is the granule, with the realm's RECs and translation; None if there is no such
-- realm
abbrev pub descriptor_of : Fields → ℕ → Option RealmRow
descriptor_of fields rd =
    option_map (λ realm. realm_row realm (recs_of fields.granules fields.recs rd) (rows fields.pages realm.root)) (realm_at fields rd)

-- the bytes of a granule's cell: the granule's contents, or zero bytes for a table, whose contents are rows
abbrev pub bytes_of : GranuleState → List ℕ → List ℕ
bytes_of InRtt page = zero_page
bytes_of _ page = page

abbrev pub cell_of : Fields → ℕ → Cell
cell_of fields granule = record {
  state = (granule_at fields.granules granule).state;
  realm = (granule_at fields.granules granule).realm;
  bytes = bytes_of (granule_at fields.granules granule).state (page_at fields.pages granule);
  descriptor = descriptor_of fields granule;
}

unfoldable pub machine_of : Fields → Machine
machine_of fields = map (cell_of fields) (range_with_len 0 (length fields.granules))

-- the view of an RMM that has the given fields
abbrev pub seen_as : Fields → MonitorView
seen_as fields = record { vmids = fields.vmids; aux = fields.aux; machine = machine_of fields; free = fields.free }

-- ---- the invariant

-- the state is REC
abbrev pub is_rec_state : GranuleState → Bool
is_rec_state InRec = true
is_rec_state _ = false

-- The state of a granule agrees with its realm, with its contents, and with the attributes that the fields have at its
-- index. A granule that is UNDELEGATED or DELEGATED belongs to no realm, and one that is DELEGATED is zero. There are
-- attributes of a realm exactly when the state is RD, and attributes of a REC exactly when it is REC.
pub record IsSoundAt (fields : Fields) (granule : ℕ) : Type 0 where
  pub host : is_host_state (granule_at fields.granules granule).state ≡ true → (granule_at fields.granules granule).realm ≡ None
  pub zero : (granule_at fields.granules granule).state ≡ Delegated → page_at fields.pages granule ≡ zero_page
  pub rd : is_some (realm_at fields granule) ≡ is_rd_state (granule_at fields.granules granule).state
  pub rec : is_some (rec_at fields granule) ≡ is_rec_state (granule_at fields.granules granule).state

-- the REC's granule belongs to an existing realm, and the REC's number is below the number of that realm's next REC
pub record IsRecOf (fields : Fields) (granule : ℕ) (rec : RecAttributes) : Type 0 where
  pub rd : ℕ
  pub of : (granule_at fields.granules granule).realm ≡ Some rd
  pub realm : RealmAttributes
  pub there : realm_at fields rd ≡ Some realm
  pub below : rec.number < realm.next

-- RECs belong to realms, and two RECs of one realm have different numbers. Their auxiliaries are in REC_AUX of the same
-- realm, and each is there once.
pub record HasRecs (fields : Fields) : Type 0 where
  pub of : (granule : ℕ) (rec : RecAttributes) → rec_at fields granule ≡ Some rec → IsRecOf fields granule rec
  pub once : (g h : ℕ) (rec other : RecAttributes) → rec_at fields g ≡ Some rec → rec_at fields h ≡ Some other
      → (granule_at fields.granules g).realm ≡ (granule_at fields.granules h).realm → rec.number ≡ other.number → g ≡ h
  pub auxiliaries : (granule : ℕ) (rec : RecAttributes) (i auxiliary : ℕ) → rec_at fields granule ≡ Some rec → slice_get rec.auxiliaries i ≡ Some auxiliary
      → IsIn fields.granules auxiliary InRecAux (granule_at fields.granules granule).realm
  pub auxiliaries_once : (g h : ℕ) (rec other : RecAttributes) (i j auxiliary : ℕ) → rec_at fields g ≡ Some rec → rec_at fields h ≡ Some other
      → slice_get rec.auxiliaries i ≡ Some auxiliary → slice_get other.auxiliaries j ≡ Some auxiliary → (g ≡ h) × (i ≡ j)

pub record IsWhole (fields : Fields) : Type 0 where
  -- The lists of granules' contents, of realms, of REC counts and of RECs have one element for each granule. A granule
  -- that is not UNDELEGATED is not free.
  pub backed : IsBacked fields.pages fields.free fields.granules
  pub realm_places : length fields.realms ≡ length fields.granules
  pub count_places : length fields.rec_counts ≡ length fields.granules
  pub rec_places : length fields.recs ≡ length fields.granules
  pub each : (granule : ℕ) → IsSoundAt fields granule
  pub tables : (rd : ℕ) (realm : RealmAttributes) → realm_at fields rd ≡ Some realm → HasTables fields.pages fields.granules rd realm.root
  pub recs : HasRecs fields
  -- The count kept for a realm is the number of its RECs. A VMID is used exactly when a realm has it, and then only
  -- one has it.
  pub counted : (rd : ℕ) → rec_count_at fields rd ≡ len (recs_of fields.granules fields.recs rd)
  pub vmids_used : (vmid : ℕ) → count_by (is_realm_with vmid) fields.realms ≡ (if is_used fields.used vmid then 1 else 0)
