-- The conditions that commands check or require on granules, realms and RECs, and two changes of a realm's attributes.
use Rattle.std.specs.Prelude.{◌≡◌, ℕ, ◌+◌, ◌%◌, ◌==◌, ◌<◌, List, ◌∷◌, length, Bool, true, false, not, ◌&&◌, nat_le, Option, Some, None}
use Rattle.std.specs.List.{list_all}
use Rattle.granule_addr.specs.Root.{start_count, starting_tables}
use Rattle.granule_addr.specs.declared.width.Root.{Root}
use Rattle.page_arena.specs.Page.{is_free}
use Rattle.rtt.specs.Granules.{granule_at}
use Rattle.rtt.specs.declared.granule.Granule.{Granule}
use Rattle.realm_model.specs.Measurement.{measurement_after, rec_event}
use Rattle.realm_model.specs.Command.Check.{are_distinct}
use Rattle.realm_model.specs.declared.states.GranuleState.{GranuleState}
use Rattle.realm_model.specs.declared.states.GranuleState.TheVariants.{Undelegated, Delegated}
use Rattle.rmi_monitor.specs.Attributes.{RealmAttributes}

-- a realm's attributes with the measurement extended by the given bytes
abbrev pub measured_by : List ℕ → RealmAttributes → RealmAttributes
measured_by event realm = record realm { measurement = measurement_after realm.measurement event }

-- a realm's attributes after the creation of a REC: the next number rises by one, and the measurement is extended by
-- the REC
abbrev pub with_rec_more : RealmAttributes → RealmAttributes
with_rec_more realm = record realm { next = realm.next + 1; measurement = measurement_after realm.measurement (rec_event realm.next) }

abbrev pub is_delegated_at : List Granule → ℕ → Bool
is_delegated_at granules granule = elim (granule_at granules granule).state [ Delegated ↦ true | _ ↦ false ]

abbrev pub is_undelegated_at : List Granule → ℕ → Bool
is_undelegated_at granules granule = elim (granule_at granules granule).state [ Undelegated ↦ true | _ ↦ false ]

-- a granule is DELEGATED and not the RD, so it can be a starting table of the new realm
abbrev pub is_fit_to_start : List Granule → ℕ → ℕ → Bool
is_fit_to_start granules rd table = is_delegated_at granules table && not (table == rd)

-- The granules and the VMID meet the requirements of a new realm, if other realms are disregarded. The RD and the
-- starting tables are DELEGATED, and different granules. The first table is at a multiple of their count. The VMID is
-- from 1 to the machine's greatest.
abbrev pub are_fit_for_realm : List Granule → ℕ → Root → ℕ → ℕ → Bool
are_fit_for_realm granules rd root vmid vmids =
    root.first % start_count root.width == 0 && is_delegated_at granules rd
    && list_all (is_fit_to_start granules rd) (starting_tables root) && nat_le 1 vmid && nat_le vmid vmids

-- there is a realm, and it has the given VMID
abbrev pub is_realm_with : ℕ → Option RealmAttributes → Bool
is_realm_with vmid place = elim place [ Some realm ↦ realm.vmid == vmid | None ↦ false ]

-- the granule and the auxiliaries of a new REC are DELEGATED and distinct, and there are `count` auxiliaries
abbrev pub are_fit_for_rec : List Granule → ℕ → List ℕ → ℕ → Bool
are_fit_for_rec granules first others count =
    list_all (is_delegated_at granules) (first ∷ others) && are_distinct (first ∷ others) && length others == count

-- the granule is inside the machine, and in the given state
pub record IsInState (granules : List Granule) (state : GranuleState) (granule : ℕ) : Type 0 where
  pub inside : granule < length granules
  pub is : (granule_at granules granule).state ≡ state

-- `pages` has contents for the granule, and the granule is not free
pub record HasPage (pages : List (List ℕ)) (flags : List Bool) (granule : ℕ) : Type 0 where
  pub inside : granule < length pages
  pub taken : is_free flags granule ≡ false
