-- Examples of data pages under a table of level 3: one is measured, a guest writes to it, and all are destroyed.
use Rattle.std.proofs.Common.{◌≡◌, ℕ, true, false, cond, ◌&&◌, List, [], ◌∷◌, ◌++◌, Some, None, set, refl, ap, ◌∙◌, lit≤}
use Rattle.std.specs.FinMap.{get, insert, empty, get-insert, get-remove}
use Rattle.std.specs.Cmp.{nat_cmp_total}
use Rattle.std.specs.Str.{bytes_eq}
use Rattle.std.specs.Prelude.{◌==◌, is_some, option_and_then}
use Rattle.granule_addr.specs.Ipa.{first_covered, is_protected_at}
use Rattle.granule_addr.specs.Root.{starting_tables}
use Rattle.granule_addr.specs.Page.{zero_page, page_of}
use Rattle.realm_model.specs.declared.act.Act.TheVariants.{Take, Fill, Delegate, Realm, Activate, Rtt, Ripas, Data, Unknown, UnData, Rec, UnRec, Enter, Exit, Poke}
use Rattle.realm_model.specs.declared.act.Event.{Event}
use Rattle.realm_model.specs.declared.states.GranuleState.TheVariants.{Rec as InRec, RecAux, Data as InData}
use Rattle.realm_model.specs.declared.states.EntryState.TheVariants.{Assigned}
use Rattle.realm_model.specs.declared.states.RealmState.TheVariants.{Active}
use Rattle.realm_model.specs.declared.states.RecState.{RecState}
use Rattle.realm_model.specs.declared.states.RecState.TheVariants.{Ready, Running}
use Rattle.realm_model.specs.declared.states.Ripas.{Ripas as RipasOf}
use Rattle.realm_model.specs.declared.states.Ripas.TheVariants.{Empty, Ram, Destroyed}
use Rattle.realm_model.specs.Rows.{Row, Rows, put_row, row_at, unmapped_ripas}
use Rattle.realm_model.specs.Measurement.{zero_measurement, measurement_after, data_event, ripas_event, rec_event}
use Rattle.realm_model.specs.Machine.{Limits, RecRow, RealmRow, Cell}
use Rattle.realm_model.specs.Act.{named, reverse_of, is_reverse}
use Rattle.realm_model.specs.Command.Check.{check, with_realm, with_granule}
use Rattle.realm_model.specs.Command.Realm.{new_realm}
use Rattle.realm_model.specs.Outcome.{outcome_of, fits, leads_to}
use Rattle.realm_model.specs.World.{World, realm_from, updated_all, opening}
use Rattle.realm_model.specs.Step.{step}
use Rattle.realm_model.specs.History.{after, replay, open_entries, IsLegal}
use Rattle.realm_model.specs.Undoing.{by}
use Rattle.realm_model.proofs.HistoryParts.{after_append}
use Rattle.realm_model.proofs.Maps.{place_total}
use Rattle.realm_model.proofs.Outcomes.{check_true, end_there, rec_there}
use Rattle.realm_model.proofs.Rows.{place_self, differs, get-put_row_other}
use Rattle.realm_model.proofs.Walks.{walk_there}
use Rattle.realm_model.proofs.Examples.Worlds.{machine_of, page, delegated, rd, of_realm, table_page, start, start_rows, fresh, world_of}
use Rattle.realm_model.proofs.Examples.Worlds.{OneRec, ready, running, stopped, gone, latest, step_by, and_then, at_end, forward, joined}
use Rattle.realm_model.proofs.Examples.Tables.{vacant, root-walk, tabled, tabled-first}
use Rattle.realm_model.proofs.Examples.Ram.{mapped, mapped-row, ram, ram-first, ram-zero, ram-one, all_free}

abbrev eight : Limits
eight = record (machine_of 8) { aux = 1 }

abbrev pub assigned : RipasOf → ℕ → Row
assigned ripas granule = record { state = Assigned; ripas = ripas; granule = Some granule }

-- ---- rows, one change after another

-- after a row is put at a place of level 3, it is the row there
pub put_here : (rows : Rows) (ipa : ℕ) (row : Row) → get (insert rows (3, ipa) row) (3, ipa) ≡ Some row
put_here rows ipa row = get-insert place_total rows (3, ipa) row (3, ipa) ∙ ap (λ t. cond t (Some row) (get rows (3, ipa))) (place_self (3, ipa))

-- the rows after granule 4 is mapped as a page; `without_page` gives the rows after that page is unmapped again
abbrev with_page : Rows → ℕ → RipasOf → Rows
with_page rows ipa ripas = put_row rows 3 ipa (assigned ripas 4)

abbrev without_page : Rows → ℕ → RipasOf → Rows
without_page rows ipa ripas = put_row (with_page rows ipa ripas) 3 ipa (vacant (unmapped_ripas ripas))

other_stays : (rows : Rows) (ipa : ℕ) (ripas : RipasOf) (q : ℕ × ℕ) → differs q (3, first_covered 3 ipa) → get (without_page rows ipa ripas) q ≡ get rows q
other_stays rows ipa ripas q other =
    let place : ℕ × ℕ = (3, first_covered 3 ipa) in
    get-put_row_other (with_page rows ipa ripas) place q _ other ∙ get-put_row_other rows place q _ other

abbrev with_data : Rows
with_data = with_page ram 0 Ram

abbrev without_data : Rows
without_data = without_page ram 0 Ram

without_data-eight : get without_data (3, 8) ≡ Some (vacant Ram)
without_data-eight = other_stays ram 0 Ram (3, 8) refl ∙ ram-first

abbrev without_unknown : Rows
without_unknown = without_page without_data 8 Ram

without_unknown-one : get without_unknown (3, 1) ≡ Some (vacant Empty)
without_unknown-one = other_stays without_data 8 Ram (3, 1) refl ∙ other_stays ram 0 Ram (3, 1) refl ∙ ram-one

abbrev without_other : Rows
without_other = without_page without_unknown 1 Empty

without_other-zero : get without_other (3, 0) ≡ Some (vacant Destroyed)
without_other-zero =
    other_stays without_unknown 1 Empty (3, 0) refl ∙ other_stays without_data 8 Ram (3, 0) refl ∙ put_here with_data 0 (vacant Destroyed)

abbrev without_third : Rows
without_third = without_page without_other 0 Destroyed

-- ---- a realm on a machine of eight pages: table pages 1 to 3, a page of data at 4, and its source at 5

abbrev begun : List Event
begun = by 0 (Take 3 0) ∷ by 0 (Fill 5 7) ∷ by 0 (Delegate 0) ∷ by 0 (Delegate 1) ∷ by 0 (Delegate 2) ∷ by 0 (Delegate 3) ∷ by 0 (Delegate 4)
    ∷ by 0 (Delegate 6) ∷ by 0 (Delegate 7) ∷ by 0 (Realm 0 start 2) ∷ []

-- the row of this example's realm at its creation, with VMID 2
abbrev second : RealmRow
second = record fresh { vmid = 2 }

abbrev source : Cell
source = page (page_of 7)

abbrev early : RealmRow → Cell → Cell → World
early realm two three = world_of (rd realm ∷ table_page ∷ two ∷ three ∷ delegated ∷ source ∷ delegated ∷ delegated ∷ [])

begun-world : replay eight begun ≡ Some (early second delegated delegated)
unfolding after step named outcome_of fits updated_all check realm_from new_realm starting_tables
begun-world = refl

upper : step eight (early second delegated delegated) (by 0 (Rtt 2 0 2)) ≡ Some (early (record second { rows = tabled }) table_page delegated)
unfolding named outcome_of fits updated_all check realm_from with_realm starting_tables
upper = step_by eight _ _ (by 0 (Rtt 2 0 2)) _ refl (end_there start_rows 0 1 _ _ root-walk) refl

lower : step eight (early (record second { rows = tabled }) table_page delegated) (by 0 (Rtt 3 0 3)) ≡ Some (early (record second { rows = mapped }) table_page table_page)
unfolding named outcome_of fits updated_all check realm_from with_realm starting_tables
lower = step_by eight _ _ (by 0 (Rtt 3 0 3)) _ refl (end_there tabled 0 2 _ _ (walk_there tabled 0 2 (vacant Empty) (lit≤ tt) tabled-first)) refl

abbrev m1 : List ℕ
m1 = measurement_after zero_measurement (ripas_event 8 4)

abbrev m2 : List ℕ
m2 = measurement_after m1 (data_event 0 (page_of 7))

abbrev m3 : List ℕ
m3 = measurement_after m2 (rec_event 0)

rammed : step eight (early (record second { rows = mapped }) table_page table_page) (by 0 (Ripas 8 4)) ≡ Some (early (record second { rows = ram; measurement = m1 }) table_page table_page)
unfolding named outcome_of fits updated_all realm_from with_realm starting_tables
rammed = step_by eight _ _ (by 0 (Ripas 8 4)) _ refl
    (check_true _ _ _ refl ∙ check_true _ _ _ refl ∙ end_there mapped 8 3 _ _ (walk_there mapped 8 3 (vacant Empty) (lit≤ tt) (mapped-row 8 (lit≤ tt)))
    ∙ check_true _ _ _ refl ∙ check_true _ _ _ all_free)
    refl

-- the world after the tables of levels 2 and 3 are created, given the realm's row and the cells of granules 4, 6 and 7
abbrev late : RealmRow → Cell → Cell → Cell → World
late realm fourth sixth seventh = world_of (rd realm ∷ table_page ∷ table_page ∷ table_page ∷ fourth ∷ source ∷ sixth ∷ seventh ∷ [])

loaded : step eight (late (record second { rows = ram; measurement = m1 }) delegated delegated delegated) (by 0 (Data 4 0 5))
    ≡ Some (late (record second { rows = with_data; measurement = m2 }) (of_realm InData (page_of 7)) delegated delegated)
unfolding named outcome_of fits updated_all check realm_from with_realm starting_tables
loaded = step_by eight _ _ (by 0 (Data 4 0 5)) _ refl (end_there ram 0 3 _ _ (walk_there ram 0 3 (vacant Empty) (lit≤ tt) ram-zero)) refl

-- ---- a REC with one auxiliary granule

abbrev rec : RecState → RecRow
rec state = record { granule = 6; auxiliaries = 7 ∷ []; state = state }

gone-rec : get (gone rec) 0 ≡ None
gone-rec = get-remove nat_cmp_total (stopped rec) 0 0

abbrev measured_realm : Rows → OneRec → RealmRow
measured_realm rows recs = record second { rows = rows; measurement = m3; next = 1; recs = recs rec }

abbrev active : Rows → OneRec → RealmRow
active rows recs = record (measured_realm rows recs) { state = Active }

abbrev with_rec_pages : RealmRow → List ℕ → World
with_rec_pages realm bytes = late realm (of_realm InData bytes) (of_realm InRec zero_page) (of_realm RecAux zero_page)

made : step eight (late (record second { rows = with_data; measurement = m2 }) (of_realm InData (page_of 7)) delegated delegated) (by 0 (Rec 6 (record { items = 7 ∷ [] }) 0))
    ≡ Some (with_rec_pages (measured_realm with_data ready) (page_of 7))
unfolding step named outcome_of fits updated_all check realm_from with_realm starting_tables
made = refl

activated : step eight (with_rec_pages (measured_realm with_data ready) (page_of 7)) (by 0 Activate) ≡ Some (with_rec_pages (active with_data ready) (page_of 7))
unfolding step named outcome_of fits updated_all check realm_from with_realm starting_tables
activated = refl

entered : step eight (with_rec_pages (active with_data ready) (page_of 7)) (by 0 (Enter 0)) ≡ Some (with_rec_pages (active with_data running) (page_of 7))
unfolding named outcome_of fits updated_all check realm_from with_realm starting_tables
entered = step_by eight _ _ (by 0 (Enter 0)) _ refl (rec_there (active with_data ready) 0 _ (rec Ready) (latest empty (rec Ready))) refl

-- the bytes of the page after the guest has written the page's last byte
abbrev written : List ℕ
written = set (page_of 7) 4095 1

poked : step eight (with_rec_pages (active with_data running) (page_of 7)) (by 0 (Poke 0 0 4095 1)) ≡ Some (with_rec_pages (active with_data running) written)
unfolding named outcome_of fits updated_all realm_from with_realm with_granule starting_tables
poked = step_by eight _ _ (by 0 (Poke 0 0 4095 1)) _ refl
    (rec_there (active with_data running) 0 _ (rec Running) (latest (ready rec) (rec Running)) ∙ check_true _ _ _ refl ∙ check_true _ _ _ refl
    ∙ end_there with_data 0 3 _ _ (walk_there with_data 0 3 (assigned Ram 4) (lit≤ tt) (put_here ram 0 (assigned Ram 4))) ∙ check_true _ _ _ refl)
    refl

exited : step eight (with_rec_pages (active with_data running) written) (by 0 (Exit 0)) ≡ Some (with_rec_pages (active with_data stopped) written)
unfolding named outcome_of fits updated_all check realm_from with_realm starting_tables
exited = step_by eight _ _ (by 0 (Exit 0)) _ refl (rec_there (active with_data running) 0 _ (rec Running) (latest (ready rec) (rec Running))) refl

-- ---- the undo, the newest first

unmade : step eight (with_rec_pages (active with_data stopped) written) (by 0 (UnRec 6 (record { items = 7 ∷ [] }) 0)) ≡ Some
    (late (active with_data gone) (of_realm InData written) delegated delegated)
unfolding named outcome_of fits updated_all check realm_from with_realm starting_tables
unmade = step_by eight _ _ (by 0 (UnRec 6 (record { items = 7 ∷ [] }) 0)) _
    (ap (λ o. elim o [ Some r ↦ r.granule == 6 && bytes_eq r.auxiliaries (7 ∷ []) | None ↦ false ]) (latest (running rec) (rec Ready)))
    (rec_there (active with_data stopped) 0 _ (rec Ready) (latest (running rec) (rec Ready))) refl

-- The destruction of a page leaves its IPA DESTROYED if the RIPAS was RAM. A page of zeros is mapped, and the RIPAS
-- stays; the realm is ACTIVE, and is not measured.
module _ (rows : Rows) (ipa : ℕ) (ripas : RipasOf) (inside : is_protected_at ipa 39 ≡ true) where
  emptied : (bytes : List ℕ) → step eight (late (active (with_page rows ipa ripas) gone) (of_realm InData bytes) delegated delegated) (by 0 (UnData 4 ipa))
      ≡ Some (late (active (without_page rows ipa ripas) gone) delegated delegated delegated)
  unfolding named outcome_of fits updated_all realm_from with_realm with_granule starting_tables
  emptied bytes =
      let here = put_here rows (first_covered 3 ipa) (assigned ripas 4) in
      step_by eight _ _ (by 0 (UnData 4 ipa)) _ (ap (λ o. leads_to o 4) here)
      (check_true _ _ _ inside ∙ end_there (with_page rows ipa ripas) ipa 3 _ _ (walk_there (with_page rows ipa ripas) ipa 3 (assigned ripas 4) (lit≤ tt) here)
      ∙ check_true _ _ _ refl ∙ check_true _ _ _ refl)
      refl

  filled : row_at rows 3 ipa ≡ Some (vacant ripas)
      → step eight (late (active rows gone) delegated delegated delegated) (by 0 (Unknown 4 ipa)) ≡ Some (late (active (with_page rows ipa ripas) gone) (of_realm InData zero_page) delegated delegated)
  unfolding named outcome_of fits updated_all realm_from with_realm starting_tables
  filled free = step_by eight _ _ (by 0 (Unknown 4 ipa)) _ refl
      (check_true _ _ _ inside ∙ end_there rows ipa 3 _ _ (walk_there rows ipa 3 (vacant ripas) (lit≤ tt) free) ∙ check_true _ _ _ refl ∙ check_true _ _ _ refl)
      refl

-- ---- the whole history

abbrev up : List Event
up = by 0 (Rtt 2 0 2) ∷ by 0 (Rtt 3 0 3) ∷ by 0 (Ripas 8 4) ∷ by 0 (Data 4 0 5) ∷ by 0 (Rec 6 (record { items = 7 ∷ [] }) 0) ∷ by 0 Activate ∷ by 0 (Enter 0)
    ∷ by 0 (Poke 0 0 4095 1) ∷ by 0 (Exit 0) ∷ []

abbrev down : List Event
down = by 0 (UnRec 6 (record { items = 7 ∷ [] }) 0) ∷ by 0 (UnData 4 0) ∷ by 0 (Unknown 4 8) ∷ by 0 (UnData 4 8) ∷ by 0 (Unknown 4 1) ∷ by 0 (UnData 4 1)
    ∷ by 0 (Unknown 4 0) ∷ by 0 (UnData 4 0) ∷ []

abbrev then : List Event
then = up ++ down

then-world : replay eight (begun ++ then) ≡ Some (late (active without_third gone) delegated delegated delegated)
then-world =
    after_append eight begun then (opening eight) ∙ ap (option_and_then (after eight then)) begun-world
    ∙ and_then eight _ _ _ _ _ upper (and_then eight _ _ _ _ _ lower (and_then eight _ _ _ _ _ rammed (and_then eight _ _ _ _ _ loaded
    (and_then eight _ _ _ _ _ made (and_then eight _ _ _ _ _ activated (and_then eight _ _ _ _ _ entered (and_then eight _ _ _ _ _ poked
    (and_then eight _ _ _ _ _ exited (and_then eight _ _ _ _ _ unmade (and_then eight _ _ _ _ _ (emptied ram 0 Ram refl written)
    (and_then eight _ _ _ _ _ (filled without_data 8 Ram refl without_data-eight) (and_then eight _ _ _ _ _ (emptied without_data 8 Ram refl zero_page)
    (and_then eight _ _ _ _ _ (filled without_unknown 1 Empty refl without_unknown-one) (and_then eight _ _ _ _ _ (emptied without_unknown 1 Empty refl zero_page)
    (and_then eight _ _ _ _ _ (filled without_other 0 Destroyed refl without_other-zero) (and_then eight _ _ _ _ _ (emptied without_other 0 Destroyed refl zero_page)
    (at_end eight _)))))))))))))))))

then-legal : IsLegal eight (begun ++ then)
unfolding is_reverse open_entries reverse_of
then-legal = record {
  steps = ap is_some then-world;
  in_turn = joined [] (begun ++ up) down (forward [] (begun ++ up) refl) (λ r. refl, (λ r. refl, (λ r. cc, (λ r. refl, (λ r. cc, (λ r. refl, (λ r. cc, (λ r. refl, tt))))))));
}
