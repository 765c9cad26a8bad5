-- An example of a realm with two RECs, where the build, the RD and the IPA granule of the data have numbers other than
-- 0.
use Rattle.std.proofs.Common.{◌≡◌, ℕ, false, ◌&&◌, List, [], ◌∷◌, ◌++◌, map, Some, None, set, refl, ap, ◌∙◌, lit≤}
use Rattle.std.specs.FinMap.{get, insert, remove, empty, get-insert, get-remove}
use Rattle.std.specs.Cmp.{nat_cmp_total}
use Rattle.std.specs.Option.{option_eq}
use Rattle.std.specs.Str.{bytes_eq}
use Rattle.std.specs.Prelude.{◌==◌, is_some, nat_eq, option_and_then}
use Rattle.granule_addr.specs.Page.{page_of}
use Rattle.granule_addr.specs.Root.{starting_tables}
use Rattle.granule_addr.specs.declared.width.Root.{Root}
use Rattle.realm_model.specs.declared.act.Act.TheVariants.{Take, Fill, Delegate, Realm, Activate, Rtt, Data, UnData, Rec, UnRec, Enter, Exit, Poke}
use Rattle.realm_model.specs.declared.act.Event.{Event}
use Rattle.realm_model.specs.declared.states.GranuleState.TheVariants.{Rd, Rtt as InRtt, Rec as InRec, Data as InData}
use Rattle.realm_model.specs.declared.states.RealmState.TheVariants.{New, Active}
use Rattle.realm_model.specs.declared.states.RecState.{RecState}
use Rattle.realm_model.specs.declared.states.RecState.TheVariants.{Ready, Running}
use Rattle.realm_model.specs.declared.states.Ripas.TheVariants.{Empty, Ram, Destroyed}
use Rattle.realm_model.specs.Rows.{Rows}
use Rattle.realm_model.specs.Measurement.{zero_measurement, measurement_after, data_event, rec_event}
use Rattle.realm_model.specs.Machine.{RecRow, RealmRow, Cell, held}
use Rattle.realm_model.specs.Act.{named, reverse_of, is_reverse}
use Rattle.realm_model.specs.Command.Check.{check, with_realm, with_granule}
use Rattle.realm_model.specs.Command.Realm.{new_realm}
use Rattle.realm_model.specs.Outcome.{outcome_of, fits}
use Rattle.realm_model.specs.World.{World, realm_from, updated_all, opening}
use Rattle.realm_model.specs.Step.{step}
use Rattle.realm_model.specs.History.{after, replay, open_entries, IsLegal}
use Rattle.realm_model.specs.Undoing.{by}
use Rattle.realm_model.proofs.HistoryParts.{after_append}
use Rattle.realm_model.proofs.Outcomes.{check_true, end_there, rec_there}
use Rattle.realm_model.proofs.Walks.{walk_there}
use Rattle.realm_model.proofs.Examples.Worlds.{machine_of, page, delegated, start_rows, Recs, latest, step_by, and_then, at_end, forward, joined}
use Rattle.realm_model.proofs.Examples.Tables.{vacant, root-walk, tabled, tabled-first}
use Rattle.realm_model.proofs.Examples.Ram.{mapped, mapped-row}
use Rattle.realm_model.proofs.Examples.Data.{assigned, put_here}

-- ---- build 1 has all eight pages: RD 1, table pages 0, 2 and 3, data at 4 with its source at 5, and RECs at 6 and 7

abbrev low : Root
low = record { first = 0; width = 39 }

abbrev begun : List Event
begun = by 1 (Take 3 0) ∷ by 1 (Fill 5 7) ∷ by 1 (Delegate 0) ∷ by 1 (Delegate 1) ∷ by 1 (Delegate 2) ∷ by 1 (Delegate 3) ∷ by 1 (Delegate 4)
    ∷ by 1 (Delegate 6) ∷ by 1 (Delegate 7) ∷ by 1 (Realm 1 low 3) ∷ []

abbrev third : RealmRow
third = record { state = New; vmid = 3; root = low; next = 0; measurement = zero_measurement; recs = empty; rows = start_rows }

abbrev table_page : Cell
table_page = held InRtt 1

abbrev rec_page : Cell
rec_page = held InRec 1

abbrev data_page : List ℕ → Cell
data_page bytes = record (held InData 1) { bytes = bytes }

-- the world of this example, given the realm's row and the cells of granules 2, 3, 4, 6 and 7
abbrev world : RealmRow → Cell → Cell → Cell → Cell → Cell → World
world realm g2 g3 g4 g6 g7 = record { machine = cells; leases = map (λ _. Some 1) cells }
  where
    cells : List Cell
    cells = table_page ∷ record (held Rd 1) { descriptor = Some realm } ∷ g2 ∷ g3 ∷ g4 ∷ page (page_of 7) ∷ g6 ∷ g7 ∷ []

begun-world : replay (machine_of 8) begun ≡ Some (world third delegated delegated delegated delegated delegated)
unfolding after step named outcome_of fits updated_all check realm_from new_realm starting_tables
begun-world = refl

-- ---- its tables, and a page of data at IPA granule 5

upper : step (machine_of 8) (world third delegated delegated delegated delegated delegated) (by 1 (Rtt 2 0 2))
    ≡ Some (world (record third { rows = tabled }) table_page delegated delegated delegated delegated)
unfolding named outcome_of fits updated_all check realm_from with_realm starting_tables
upper = step_by (machine_of 8) _ _ (by 1 (Rtt 2 0 2)) _ refl (end_there start_rows 0 1 _ _ root-walk) refl

lower : step (machine_of 8) (world (record third { rows = tabled }) table_page delegated delegated delegated delegated) (by 1 (Rtt 3 0 3))
    ≡ Some (world (record third { rows = mapped }) table_page table_page delegated delegated delegated)
unfolding named outcome_of fits updated_all check realm_from with_realm starting_tables
lower = step_by (machine_of 8) _ _ (by 1 (Rtt 3 0 3)) _ refl (end_there tabled 0 2 _ _ (walk_there tabled 0 2 (vacant Empty) (lit≤ tt) tabled-first)) refl

abbrev with_data : Rows
with_data = insert mapped (3, 5) (assigned Ram 4)

abbrev without_data : Rows
without_data = insert with_data (3, 5) (vacant Destroyed)

abbrev m1 : List ℕ
m1 = measurement_after zero_measurement (data_event 5 (page_of 7))

abbrev m2 : List ℕ
m2 = measurement_after m1 (rec_event 0)

abbrev m3 : List ℕ
m3 = measurement_after m2 (rec_event 1)

loaded : step (machine_of 8) (world (record third { rows = mapped }) table_page table_page delegated delegated delegated) (by 1 (Data 4 5 5))
    ≡ Some (world (record third { rows = with_data; measurement = m1 }) table_page table_page (data_page (page_of 7)) delegated delegated)
unfolding named outcome_of fits updated_all check realm_from with_realm starting_tables
loaded = step_by (machine_of 8) _ _ (by 1 (Data 4 5 5)) _ refl (end_there mapped 5 3 _ _ (walk_there mapped 5 3 (vacant Empty) (lit≤ tt) (mapped-row 5 (lit≤ tt)))) refl

-- ---- two RECs, of which the second one runs

abbrev rec : ℕ → RecState → RecRow
rec granule state = record { granule = granule; auxiliaries = []; state = state }

abbrev one : Recs
one = insert empty 0 (rec 6 Ready)

abbrev both : Recs
both = insert one 1 (rec 7 Ready)

abbrev running : Recs
running = insert both 1 (rec 7 Running)

abbrev stopped : Recs
stopped = insert running 1 (rec 7 Ready)

abbrev one_again : Recs
one_again = remove stopped 1

abbrev gone : Recs
gone = remove one_again 0

latest_second : (recs : Recs) (rec : RecRow) → get (insert recs 1 rec) 1 ≡ Some rec
latest_second recs rec = get-insert nat_cmp_total recs 1 rec 1

-- the first REC is unchanged after the second one is created, runs, stops and is destroyed
first_stays : get one_again 0 ≡ Some (rec 6 Ready)
first_stays =
    get-remove nat_cmp_total stopped 1 0 ∙ get-insert nat_cmp_total running 1 (rec 7 Ready) 0 ∙ get-insert nat_cmp_total both 1 (rec 7 Running) 0
    ∙ get-insert nat_cmp_total one 1 (rec 7 Ready) 0 ∙ latest empty (rec 6 Ready)

abbrev with_one : RealmRow
with_one = record third { rows = with_data; measurement = m2; next = 1; recs = one }

abbrev with_both : RealmRow
with_both = record third { rows = with_data; measurement = m3; next = 2; recs = both }

abbrev active : Rows → Recs → RealmRow
active rows recs = record with_both { state = Active; rows = rows; recs = recs }

-- the world with the tables of levels 2 and 3, given the realm's row and the cells of the data page and of the two RECs
abbrev whole : RealmRow → Cell → Cell → Cell → World
whole realm g4 g6 g7 = world realm table_page table_page g4 g6 g7

made-first : step (machine_of 8) (whole (record third { rows = with_data; measurement = m1 }) (data_page (page_of 7)) delegated delegated) (by 1 (Rec 6 (record { items = [] }) 0))
    ≡ Some (whole with_one (data_page (page_of 7)) rec_page delegated)
unfolding step named outcome_of fits updated_all check realm_from with_realm starting_tables
made-first = refl

made-second : step (machine_of 8) (whole with_one (data_page (page_of 7)) rec_page delegated) (by 1 (Rec 7 (record { items = [] }) 1))
    ≡ Some (whole with_both (data_page (page_of 7)) rec_page rec_page)
unfolding step named outcome_of fits updated_all check realm_from with_realm starting_tables
made-second = refl

activated : step (machine_of 8) (whole with_both (data_page (page_of 7)) rec_page rec_page) (by 1 Activate) ≡ Some (whole (active with_data both) (data_page (page_of 7)) rec_page rec_page)
unfolding step named outcome_of fits updated_all check realm_from with_realm starting_tables
activated = refl

entered : step (machine_of 8) (whole (active with_data both) (data_page (page_of 7)) rec_page rec_page) (by 1 (Enter 1))
    ≡ Some (whole (active with_data running) (data_page (page_of 7)) rec_page rec_page)
unfolding named outcome_of fits updated_all check realm_from with_realm starting_tables
entered = step_by (machine_of 8) _ _ (by 1 (Enter 1)) _ refl (rec_there (active with_data both) 1 _ (rec 7 Ready) (latest_second one (rec 7 Ready))) refl

-- the bytes of the page after the guest has written byte 4094
abbrev written : List ℕ
written = set (page_of 7) 4094 9

poked : step (machine_of 8) (whole (active with_data running) (data_page (page_of 7)) rec_page rec_page) (by 1 (Poke 1 5 4094 9))
    ≡ Some (whole (active with_data running) (data_page written) rec_page rec_page)
unfolding named outcome_of fits updated_all realm_from with_realm with_granule starting_tables
poked = step_by (machine_of 8) _ _ (by 1 (Poke 1 5 4094 9)) _ refl
    (rec_there (active with_data running) 1 _ (rec 7 Running) (latest_second both (rec 7 Running)) ∙ check_true _ _ _ refl ∙ check_true _ _ _ refl
    ∙ end_there with_data 5 3 _ _ (walk_there with_data 5 3 (assigned Ram 4) (lit≤ tt) (put_here mapped 5 (assigned Ram 4))) ∙ check_true _ _ _ refl)
    refl

exited : step (machine_of 8) (whole (active with_data running) (data_page written) rec_page rec_page) (by 1 (Exit 1))
    ≡ Some (whole (active with_data stopped) (data_page written) rec_page rec_page)
unfolding named outcome_of fits updated_all check realm_from with_realm starting_tables
exited = step_by (machine_of 8) _ _ (by 1 (Exit 1)) _ refl (rec_there (active with_data running) 1 _ (rec 7 Running) (latest_second both (rec 7 Running))) refl

-- ---- the undo, the newest first

unmade-second : step (machine_of 8) (whole (active with_data stopped) (data_page written) rec_page rec_page) (by 1 (UnRec 7 (record { items = [] }) 1))
    ≡ Some (whole (active with_data one_again) (data_page written) rec_page delegated)
unfolding named outcome_of fits updated_all check realm_from with_realm starting_tables
unmade-second = step_by (machine_of 8) _ _ (by 1 (UnRec 7 (record { items = [] }) 1)) _
    (ap (λ o. elim o [ Some r ↦ r.granule == 7 && bytes_eq r.auxiliaries [] | None ↦ false ]) (latest_second running (rec 7 Ready)))
    (rec_there (active with_data stopped) 1 _ (rec 7 Ready) (latest_second running (rec 7 Ready))) refl

unmade-first : step (machine_of 8) (whole (active with_data one_again) (data_page written) rec_page delegated) (by 1 (UnRec 6 (record { items = [] }) 0))
    ≡ Some (whole (active with_data gone) (data_page written) delegated delegated)
unfolding named outcome_of fits updated_all check realm_from with_realm starting_tables
unmade-first = step_by (machine_of 8) _ _ (by 1 (UnRec 6 (record { items = [] }) 0)) _
    (ap (λ o. elim o [ Some r ↦ r.granule == 6 && bytes_eq r.auxiliaries [] | None ↦ false ]) first_stays)
    (rec_there (active with_data one_again) 0 _ (rec 6 Ready) first_stays) refl

unloaded : step (machine_of 8) (whole (active with_data gone) (data_page written) delegated delegated) (by 1 (UnData 4 5))
    ≡ Some (whole (active without_data gone) delegated delegated delegated)
unfolding named outcome_of fits updated_all check realm_from with_realm with_granule starting_tables
unloaded = step_by (machine_of 8) _ _ (by 1 (UnData 4 5)) _
    (ap (λ o. elim o [ Some r ↦ option_eq nat_eq r.granule (Some 4) | None ↦ false ]) (put_here mapped 5 (assigned Ram 4)))
    (end_there with_data 5 3 _ _ (walk_there with_data 5 3 (assigned Ram 4) (lit≤ tt) (put_here mapped 5 (assigned Ram 4)))) refl

-- ---- the whole history

abbrev up : List Event
up = by 1 (Rtt 2 0 2) ∷ by 1 (Rtt 3 0 3) ∷ by 1 (Data 4 5 5) ∷ by 1 (Rec 6 (record { items = [] }) 0) ∷ by 1 (Rec 7 (record { items = [] }) 1) ∷ by 1 Activate
    ∷ by 1 (Enter 1) ∷ by 1 (Poke 1 5 4094 9) ∷ by 1 (Exit 1) ∷ []

abbrev down : List Event
down = by 1 (UnRec 7 (record { items = [] }) 1) ∷ by 1 (UnRec 6 (record { items = [] }) 0) ∷ by 1 (UnData 4 5) ∷ []

abbrev then : List Event
then = up ++ down

then-world : replay (machine_of 8) (begun ++ then) ≡ Some (whole (active without_data gone) delegated delegated delegated)
then-world =
    after_append (machine_of 8) begun then (opening (machine_of 8)) ∙ ap (option_and_then (after (machine_of 8) then)) begun-world
    ∙ and_then (machine_of 8) _ _ _ _ _ upper (and_then (machine_of 8) _ _ _ _ _ lower (and_then (machine_of 8) _ _ _ _ _ loaded
    (and_then (machine_of 8) _ _ _ _ _ made-first (and_then (machine_of 8) _ _ _ _ _ made-second (and_then (machine_of 8) _ _ _ _ _ activated
    (and_then (machine_of 8) _ _ _ _ _ entered (and_then (machine_of 8) _ _ _ _ _ poked (and_then (machine_of 8) _ _ _ _ _ exited
    (and_then (machine_of 8) _ _ _ _ _ unmade-second (and_then (machine_of 8) _ _ _ _ _ unmade-first (and_then (machine_of 8) _ _ _ _ _ unloaded
    (at_end (machine_of 8) _))))))))))))

then-legal : IsLegal (machine_of 8) (begun ++ then)
unfolding is_reverse open_entries reverse_of
then-legal = record {
  steps = ap is_some then-world;
  in_turn = joined [] (begun ++ up) down (forward [] (begun ++ up) refl) (λ r. refl, (λ r. refl, (λ r. refl, tt)));
}
