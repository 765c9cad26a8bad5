-- The checks and effects of RMI_REALM_CREATE, RMI_REALM_ACTIVATE and RMI_REALM_DESTROY.
use Rattle.std.specs.Prelude.{ℕ, ◌%◌, ◌==◌, nat_le, List, [], ◌∷◌, map, Bool, not, ◌&&◌, Some, Ok}
use Rattle.std.specs.List.{list_all}
use Rattle.std.specs.FinMap.{empty, len}
use Rattle.granule_addr.specs.Ipa.{is_width}
use Rattle.granule_addr.specs.Root.{start_count, starting_tables}
use Rattle.granule_addr.specs.declared.width.Root.{Root}
use Rattle.realm_model.specs.declared.states.GranuleState.TheVariants.{Rd, Rtt}
use Rattle.realm_model.specs.declared.states.RealmState.TheVariants.{New, Active}
use Rattle.realm_model.specs.Rows.{root_rows, has_root_table}
use Rattle.realm_model.specs.Measurement.{zero_measurement}
use Rattle.granule_addr.specs.Page.{zero_page}
use Rattle.realm_model.specs.Machine.{RealmRow, Seen, left, held}
use Rattle.realm_model.specs.Update.{Outcome, Put}
use Rattle.realm_model.specs.Command.Check.{check, error_input, error_realm, is_delegated, is_apart_from, is_new, with_realm, put_realm}

-- a new realm with the given VMID and starting tables
unfoldable pub new_realm : ℕ → Root → RealmRow
new_realm vmid root = record {
  state = New;
  vmid = vmid;
  root = root;
  next = 0;
  measurement = zero_measurement;
  recs = empty;
  rows = root_rows root.width;
}

-- A granule can be a starting table of the realm with this RD: it is DELEGATED, and is not the RD itself.
abbrev pub is_start : Seen → Seen → Bool
is_start rd table = is_delegated table && not (table.number == rd.number)

-- DELEGATED granules become the RD and the starting tables of a new realm. RMM 1.0, RMI_REALM_CREATE.
-- The width is one that realms may have, the first table is a multiple of their count, and the VMID is in range and not
-- in use.
abbrev pub realm_create : ℕ → List ℕ → Seen → List Seen → Root → ℕ → Outcome
realm_create vmids used rd tables root vmid =
    check (is_width root.width && root.first % start_count root.width == 0
    && is_delegated rd && list_all (is_start rd) tables
    && nat_le 1 vmid && nat_le vmid vmids && is_apart_from vmid used) error_input
    (Ok (Put rd.number (record { state = Rd; realm = Some rd.number; bytes = zero_page; descriptor = Some (new_realm vmid root) })
    ∷ map (λ t. Put t.number (held Rtt rd.number)) tables))

-- A NEW realm becomes ACTIVE. RMM 1.0, RMI_REALM_ACTIVATE.
abbrev pub realm_activate : Seen → Outcome
realm_activate rd =
    with_realm rd (λ realm.
    check (is_new realm.state) error_realm
    (Ok (put_realm rd (record realm { state = Active }) ∷ [])))

-- A realm with no REC and no table below its starting tables is removed; its RD and starting tables become DELEGATED.
-- RMM 1.0, RMI_REALM_DESTROY.
abbrev pub realm_destroy : Seen → Outcome
realm_destroy rd =
    with_realm rd (λ realm.
    check (len realm.recs == 0 && not (has_root_table realm.root.width realm.rows)) error_realm
    (Ok (Put rd.number left ∷ map (λ t. Put t left) (starting_tables realm.root))))
