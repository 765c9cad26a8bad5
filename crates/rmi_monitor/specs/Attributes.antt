-- The attributes of a realm, other than its RECs and its translation, and of a REC, other than its granule. RMM 1.0,
-- Realm and REC attributes.
use Rattle.std.specs.Prelude.{ℕ, List}
use Rattle.std.specs.FinMap.{FinMap}
use Rattle.std.specs.Ordering.{nat_cmp}
use Rattle.granule_addr.specs.declared.width.Root.{Root}
use Rattle.realm_model.specs.declared.states.RealmState.{RealmState}
use Rattle.realm_model.specs.declared.states.RecState.{RecState}
use Rattle.realm_model.specs.Rows.{Rows}
use Rattle.realm_model.specs.Machine.{RealmRow, RecRow}

-- A realm's state, VMID, starting tables and IPA width, the number of its next REC, and its measurement.
pub record RealmAttributes : Type 0 where
  pub state : RealmState
  pub vmid : ℕ
  pub root : Root
  pub next : ℕ
  pub measurement : List ℕ

-- A REC's number in its realm, its state, and its auxiliary granules.
pub record RecAttributes : Type 0 where
  pub number : ℕ
  pub state : RecState
  pub auxiliaries : List ℕ

-- the machine's record of a realm, from the given attributes, RECs and translation
abbrev pub realm_row : RealmAttributes → FinMap nat_cmp RecRow → Rows → RealmRow
realm_row realm recs rows = record {
  state = realm.state;
  vmid = realm.vmid;
  root = realm.root;
  next = realm.next;
  measurement = realm.measurement;
  recs = recs;
  rows = rows;
}

-- the machine's record of a REC, from the given granule and attributes
abbrev pub rec_row : ℕ → RecAttributes → RecRow
rec_row granule rec = record { granule = granule; auxiliaries = rec.auxiliaries; state = rec.state }
