-- An example of a realm with four starting tables, where two tables and a page are added under the second starting
-- table and everything is then undone.
use Rattle.std.proofs.Common.{◌≡◌, ℕ, ◌+◌, ◌*◌, Bool, true, false, cond, ◌&&◌, not, List, [], ◌∷◌, ◌++◌, map, Some, None, Err, refl, sym, ap, ◌∙◌, arith, lit≤}
use Rattle.std.specs.Prelude.{is_some, nat_eq, option_map, option_and_then}
use Rattle.std.specs.Option.{option_eq}
use Rattle.std.specs.Ordering.{nat_cmp}
use Rattle.std.specs.FinMap.{get, insert, empty, len, get-insert, len-empty}
use Rattle.std.proofs.lemmas.Bool.{and_from, eq-eqb}
use Rattle.std.proofs.lemmas.Option.{same_Some}
use Rattle.granule_addr.specs.Ipa.{covered_count}
use Rattle.granule_addr.specs.Root.{starting_tables}
use Rattle.granule_addr.specs.declared.width.Root.{Root}
use Rattle.granule_addr.specs.Page.{zero_page}
use Rattle.realm_model.specs.declared.act.Act.TheVariants.{Take, UnTake, Delegate, Undelegate, Realm, UnRealm, Rtt, UnRtt, Unknown, UnData}
use Rattle.realm_model.specs.declared.act.Event.{Event}
use Rattle.realm_model.specs.declared.rmi.Status.TheVariants.{Input, Realm as OfRealm, Rtt as OfRtt}
use Rattle.realm_model.specs.declared.states.GranuleState.TheVariants.{Data as InData}
use Rattle.realm_model.specs.declared.states.EntryState.TheVariants.{Assigned}
use Rattle.realm_model.specs.declared.states.Ripas.TheVariants.{Empty, Destroyed}
use Rattle.realm_model.specs.Rows.{Row, Rows, root_rows, put_row, with_table, without_table, is_unassigned, is_table, is_table_unused, all_rows, unassigned, table, is_unassigned_state, is_table_state}
use Rattle.realm_model.specs.Ownership.{mapping_of_row, Mapping}
use Rattle.realm_model.specs.Sound.{mapping_at, IsSoundRows}
use Rattle.realm_model.specs.Machine.{Limits, RecRow, Cell}
use Rattle.realm_model.specs.Update.{Outcome}
use Rattle.realm_model.specs.Act.{named, reverse_of, is_reverse}
use Rattle.realm_model.specs.Command.Check.{check, with_realm, with_granule}
use Rattle.realm_model.specs.Command.Realm.{new_realm}
use Rattle.realm_model.specs.Outcome.{outcome_of, fits}
use Rattle.realm_model.specs.World.{World, realm_from, updated_all, opening}
use Rattle.realm_model.specs.Step.{step, outcome_in}
use Rattle.realm_model.specs.History.{after, replay, open_entries, IsLegal}
use Rattle.realm_model.specs.Undoing.{by, undoing}
use Rattle.realm_model.proofs.Booleans.{false_from, true_false}
use Rattle.realm_model.proofs.HistoryParts.{after_append}
use Rattle.realm_model.proofs.Maps.{place_total, same_place}
use Rattle.realm_model.proofs.Outcomes.{check_true, end_there}
use Rattle.realm_model.proofs.RowKinds.{Vacant}
use Rattle.realm_model.proofs.Rows.{is_place, mapping_at-insert, put_there, all_rows_from, all_rows_at}
use Rattle.realm_model.proofs.SoundRows.{root_sound, with_table_sound, none_among}
use Rattle.realm_model.proofs.TableBack.{table_back}
use Rattle.realm_model.proofs.TablePlaces.{table_place}
use Rattle.realm_model.proofs.Walks.{walk_there, walk_above}
use Rattle.realm_model.proofs.Examples.Worlds.{machine_of, delegated, rd, table_page, of_realm, fresh, world_of, Recs, step_by, and_then, forward, joined}
use Rattle.realm_model.proofs.Examples.Tables.{vacant, leads, apart, within_table, beside_table, without, root-row, beside_root}

abbrev eight : Limits
eight = machine_of 8

abbrev four : Root
four = record { first = 4; width = 41 }

-- the first IPA granule that the second starting table covers
abbrev second : ℕ
second = 134217728

abbrev no_recs : Recs
no_recs = empty

-- ---- the rows of the new realm: 2,048 of level 1

abbrev wide : Rows
wide = root_rows 41

wide-second : get wide (1, second) ≡ Some (vacant Empty)
wide-second = root-row 41 512 (lit≤ tt)

wide-last : get wide (1, 536608768) ≡ Some (vacant Empty)
wide-last = root-row 41 2047 (lit≤ tt)

wide-past : get wide (1, 536870912) ≡ None
wide-past = beside_root 41 (1, 536870912) (λ k less. apart 1 536870912 (0 + k * 262144) (λ e. omega arith))

-- ---- a table of level 2, one of level 3, and a page

abbrev upper : Rows
upper = with_table wide 2 second 1 Empty

upper-above : get upper (1, second) ≡ Some (leads 1)
upper-above = beside_table wide 2 second 1 Empty (1, second) (λ k less. refl)

upper-first : get upper (2, second) ≡ Some (vacant Empty)
upper-first = within_table wide 2 second 1 Empty 0 (lit≤ tt)

abbrev lower : Rows
lower = with_table upper 3 second 2 Empty

lower-above : get lower (2, second) ≡ Some (leads 2)
lower-above = beside_table upper 3 second 2 Empty (2, second) (λ k less. refl)

lower-start : get lower (1, second) ≡ Some (leads 1)
lower-start = beside_table upper 3 second 2 Empty (1, second) (λ k less. refl) ∙ upper-above

lower-first : get lower (3, second) ≡ Some (vacant Empty)
lower-first = within_table upper 3 second 2 Empty 0 (lit≤ tt)

-- no table of level 3 covers the last protected IPA granule
lower-three : get lower (3, 268435455) ≡ None
lower-three =
    beside_table upper 3 second 2 Empty (3, 268435455) (λ k less. apart 3 268435455 (second + k * 1) (λ e. omega arith))
    ∙ beside_table wide 2 second 1 Empty (3, 268435455) (λ k less. refl)
    ∙ beside_root 41 (3, 268435455) (λ k less. refl)

lower-two : get lower (2, 268434944) ≡ None
lower-two =
    beside_table upper 3 second 2 Empty (2, 268434944) (λ k less. refl)
    ∙ beside_table wide 2 second 1 Empty (2, 268434944) (λ k less. apart 2 268434944 (second + k * 512) (λ e. omega arith))
    ∙ beside_root 41 (2, 268434944) (λ k less. refl)

lower-one : get lower (1, 268173312) ≡ Some (vacant Empty)
lower-one =
    beside_table upper 3 second 2 Empty (1, 268173312) (λ k less. refl)
    ∙ beside_table wide 2 second 1 Empty (1, 268173312) (λ k less. refl)
    ∙ root-row 41 1023 (lit≤ tt)

abbrev page_row : Row
page_row = record { state = Assigned; ripas = Empty; granule = Some 3 }

abbrev filled : Rows
filled = insert lower (3, second) page_row

filled-first : get filled (3, second) ≡ Some page_row
filled-first = get-insert place_total lower (3, second) page_row (3, second)

-- ---- the rows on the way back own the same as the rows on the way there

abbrev emptied : Rows
emptied = insert filled (3, second) (vacant Empty)

emptied-same : (q : ℕ × ℕ) → mapping_at lower q ≡ mapping_at emptied q
emptied-same q = elim (is_place q (3, second)) as (λ t. is_place q (3, second) ≡ t → mapping_at lower q ≡ cond t (Some Vacant) (mapping_at filled q)) [
  | true ↦ λ e. ap (mapping_at lower) (same_place q (3, second) e) ∙ ap (option_map mapping_of_row) lower-first
  | false ↦ λ e. sym (mapping_at-insert lower (3, second) q page_row ∙ ap (λ t. cond t (Some (mapping_of_row page_row)) (mapping_at lower q)) e)
] refl ∙ sym (mapping_at-insert filled (3, second) q (vacant Empty))

emptied-above : get emptied (2, second) ≡ Some (leads 2)
emptied-above = get-insert place_total filled (3, second) (vacant Empty) (2, second) ∙ get-insert place_total lower (3, second) page_row (2, second) ∙ lower-above

abbrev closed : Rows
closed = without_table emptied 3 second

upper_sound : IsSoundRows 41 (mapping_at upper)
upper_sound = with_table_sound wide 2 second (vacant Empty) (root_sound 41) (table_place second 2 refl) wide-second 1 Empty refl

closed-same : (q : ℕ × ℕ) → mapping_at upper q ≡ mapping_at closed q
closed-same = table_back upper emptied 3 second 2 Empty (vacant Empty) upper-first refl (none_among upper 3 second (vacant Empty) upper_sound (table_place second 3 refl) upper-first refl) emptied-same

closed-above : get closed (1, second) ≡ Some (leads 1)
closed-above =
    without emptied 3 second (1, second)
    ∙ get-insert place_total filled (3, second) (vacant Empty) (1, second) ∙ get-insert place_total lower (3, second) page_row (1, second) ∙ lower-start

closed-parent : get closed (2, second) ≡ Some (vacant Destroyed)
closed-parent = without emptied 3 second (2, second)

closed-first : get closed (3, second) ≡ None
closed-first = without emptied 3 second (3, second)

abbrev bare : Rows
bare = without_table closed 2 second

bare-same : (q : ℕ × ℕ) → mapping_at wide q ≡ mapping_at bare q
bare-same = table_back wide closed 2 second 1 Empty (vacant Empty) wide-second refl (none_among wide 2 second (vacant Empty) (root_sound 41) (table_place second 2 refl) wide-second refl) closed-same

free : (row : Row) → mapping_of_row row ≡ Vacant → is_unassigned row ≡ true
free row e = ap (λ (p : Mapping). is_unassigned_state p.state) e

plain : (row : Row) → mapping_of_row row ≡ Vacant → not (is_table row) ≡ true
plain row e = ap (λ (p : Mapping). not (is_table_state p.state)) e

emptied-unused : is_table_unused emptied 3 second ≡ true
unfolding is_table_unused with_table
emptied-unused = all_rows_from is_unassigned free emptied 3 second 512
    (λ k less. sym (emptied-same (3, second + k * covered_count 3)) ∙ put_there (unassigned Empty) (put_row upper 2 second (table 2)) 3 second 512 k less)

closed-unused : is_table_unused closed 2 second ≡ true
unfolding is_table_unused with_table
closed-unused = all_rows_from is_unassigned free closed 2 second 512
    (λ k less. sym (closed-same (2, second + k * covered_count 2)) ∙ put_there (unassigned Empty) (put_row wide 1 second (table 1)) 2 second 512 k less)

bare-plain : all_rows (λ row. not (is_table row)) bare 1 0 2048 ≡ true
unfolding root_rows
bare-plain = all_rows_from (λ row. not (is_table row)) plain bare 1 0 2048 (λ k less. sym (bare-same (1, 0 + k * covered_count 1)) ∙ put_there (unassigned Empty) empty 1 0 2048 k less)

-- the check of all starting tables for TABLE rows finds the one in the second starting table
upper-table : all_rows (λ row. not (is_table row)) upper 1 0 2048 ≡ false
upper-table = false_from _ (λ all.
    let found = all_rows_at (λ row. not (is_table row)) upper 1 0 2048 512 all (lit≤ tt) in
    true_false _ found.2 (ap (λ row. not (is_table row)) (sym (same_Some (leads 1) found.0 (sym upper-above ∙ found.1)))))

-- ---- the realm on a machine of eight pages: the RD at 0, tables at 1 and 2, the page at 3, starting tables at 4 to 7

abbrev world : Rows → Cell → Cell → Cell → World
world rows first second third = world_of (rd (record fresh { root = four; rows = rows }) ∷ first ∷ second ∷ third ∷ table_page ∷ table_page ∷ table_page ∷ table_page ∷ [])

abbrev begun : List Event
begun = by 0 (Take 3 0) ∷ map (λ g. by 0 (Delegate g)) (0 ∷ 1 ∷ 2 ∷ 3 ∷ 4 ∷ 5 ∷ 6 ∷ 7 ∷ []) ++ by 0 (Realm 0 four 1) ∷ []

begun-world : replay eight begun ≡ Some (world wide delegated delegated delegated)
unfolding after step named outcome_of fits updated_all check realm_from new_realm starting_tables
begun-world = refl

raised : step eight (world wide delegated delegated delegated) (by 0 (Rtt 1 second 2)) ≡ Some (world upper table_page delegated delegated)
unfolding named outcome_of fits updated_all check realm_from with_realm
raised = step_by eight _ _ (by 0 (Rtt 1 second 2)) _ refl (end_there wide second 1 _ _ (walk_there wide second 1 (vacant Empty) (lit≤ tt) wide-second)) refl

-- a realm with a table below a starting table can't be destroyed
stands : outcome_in eight (world upper table_page delegated delegated) (by 0 (UnRealm 0 four 1)) ≡ Err (record { status = OfRealm; index = 0 })
unfolding named outcome_of check realm_from with_realm
stands = refused _ _ (λ i. eq-eqb (len no_recs) 0 (len-empty nat_cmp RecRow) i && not (not (upper-table i)))
  where
    refused : (t : Bool) (o : Outcome) → t ≡ false → cond t o (Err (record { status = OfRealm; index = 0 })) ≡ Err (record { status = OfRealm; index = 0 })
    refused t o e = ap (λ s. cond s o (Err (record { status = OfRealm; index = 0 }))) e

lowered : step eight (world upper table_page delegated delegated) (by 0 (Rtt 2 second 3)) ≡ Some (world lower table_page table_page delegated)
unfolding named outcome_of fits updated_all check realm_from with_realm
lowered = step_by eight _ _ (by 0 (Rtt 2 second 3)) _ refl (end_there upper second 2 _ _ (walk_there upper second 2 (vacant Empty) (lit≤ tt) upper-first)) refl

-- a page in the upper half of the realm's IPA granules is refused, since that half is not protected
unprotected : outcome_in eight (world lower table_page table_page delegated) (by 0 (Unknown 3 268435456)) ≡ Err (record { status = Input; index = 0 })
unfolding named outcome_of check realm_from with_realm
unprotected = refl

untabled : outcome_in eight (world lower table_page table_page delegated) (by 0 (Unknown 3 268435455)) ≡ Err (record { status = OfRtt; index = 1 })
unfolding named outcome_of check realm_from with_realm
untabled =
    end_there lower 268435455 3 _ (record { level = 1; row = vacant Empty })
    (walk_above lower 268435455 2 lower-three ∙ walk_above lower 268435455 1 lower-two ∙ walk_there lower 268435455 1 (vacant Empty) (lit≤ tt) lower-one)

loaded : step eight (world lower table_page table_page delegated) (by 0 (Unknown 3 second)) ≡ Some (world filled table_page table_page (of_realm InData zero_page))
unfolding named outcome_of fits updated_all check realm_from with_realm
loaded = step_by eight _ _ (by 0 (Unknown 3 second)) _ refl (end_there lower second 3 _ _ (walk_there lower second 3 (vacant Empty) (lit≤ tt) lower-first)) refl

-- ---- all of it undone

unloaded : step eight (world filled table_page table_page (of_realm InData zero_page)) (by 0 (UnData 3 second)) ≡ Some (world emptied table_page table_page delegated)
unfolding named outcome_of fits updated_all check realm_from with_realm with_granule
unloaded = step_by eight _ _ (by 0 (UnData 3 second)) _
    (ap (λ o. elim o [ Some r ↦ option_eq nat_eq r.granule (Some 3) | None ↦ false ]) filled-first)
    (end_there filled second 3 _ _ (walk_there filled second 3 page_row (lit≤ tt) filled-first)) refl

unlowered : step eight (world emptied table_page table_page delegated) (by 0 (UnRtt 2 second 3)) ≡ Some (world closed table_page delegated delegated)
unfolding named outcome_of fits updated_all realm_from with_realm with_granule
unlowered = step_by eight _ _ (by 0 (UnRtt 2 second 3)) _
    (ap (λ o. elim o [ Some r ↦ option_eq nat_eq r.granule (Some 2) | None ↦ false ]) emptied-above)
    (check_true _ _ _ refl ∙ end_there emptied second 2 _ _ (walk_there emptied second 2 (leads 2) (lit≤ tt) emptied-above) ∙ check_true _ _ _ refl
    ∙ check_true _ _ _ refl ∙ check_true _ _ _ emptied-unused)
    refl

unraised : step eight (world closed table_page delegated delegated) (by 0 (UnRtt 1 second 2)) ≡ Some (world bare delegated delegated delegated)
unfolding named outcome_of fits updated_all realm_from with_realm with_granule
unraised = step_by eight _ _ (by 0 (UnRtt 1 second 2)) _
    (ap (λ o. elim o [ Some r ↦ option_eq nat_eq r.granule (Some 1) | None ↦ false ]) closed-above)
    (check_true _ _ _ refl ∙ end_there closed second 1 _ _ (walk_there closed second 1 (leads 1) (lit≤ tt) closed-above) ∙ check_true _ _ _ refl
    ∙ check_true _ _ _ refl ∙ check_true _ _ _ closed-unused)
    refl

-- the world in which all eight granules are DELEGATED and zero
abbrev all_delegated : World
all_delegated = world_of (delegated ∷ delegated ∷ delegated ∷ delegated ∷ delegated ∷ delegated ∷ delegated ∷ delegated ∷ [])

ends : step eight (world bare delegated delegated delegated) (by 0 (UnRealm 0 four 1)) ≡ Some all_delegated
unfolding named outcome_of fits updated_all realm_from with_realm starting_tables
ends = step_by eight _ _ (by 0 (UnRealm 0 four 1)) _ refl
    (check_true _ _ _ (and_from _ _ (eq-eqb (len no_recs) 0 (len-empty nat_cmp RecRow)) (ap (λ t. not (not t)) bare-plain)))
    refl

abbrev given_back : List Event
given_back = map (λ g. by 0 (Undelegate g)) (7 ∷ 6 ∷ 5 ∷ 4 ∷ 3 ∷ 2 ∷ 1 ∷ 0 ∷ []) ++ by 0 (UnTake 3 0) ∷ []

given_back-world : after eight given_back all_delegated ≡ Some (opening eight)
unfolding after step named outcome_of fits updated_all check
given_back-world = refl

-- ---- the whole history

abbrev up : List Event
up = begun ++ by 0 (Rtt 1 second 2) ∷ by 0 (Rtt 2 second 3) ∷ by 0 (Unknown 3 second) ∷ []

abbrev down : List Event
down = by 0 (UnData 3 second) ∷ by 0 (UnRtt 2 second 3) ∷ by 0 (UnRtt 1 second 2) ∷ by 0 (UnRealm 0 four 1) ∷ given_back

down-is : undoing 0 up ≡ down
unfolding open_entries reverse_of is_reverse
down-is = refl

abbrev then : List Event
then = by 0 (Rtt 1 second 2) ∷ by 0 (Rtt 2 second 3) ∷ by 0 (Unknown 3 second) ∷ down

whole-world : replay eight (begun ++ then) ≡ Some (opening eight)
whole-world =
    after_append eight begun then (opening eight) ∙ ap (option_and_then (after eight then)) begun-world
    ∙ and_then eight _ _ _ _ _ raised (and_then eight _ _ _ _ _ lowered (and_then eight _ _ _ _ _ loaded
    (and_then eight _ _ _ _ _ unloaded (and_then eight _ _ _ _ _ unlowered (and_then eight _ _ _ _ _ unraised
    (and_then eight _ _ _ _ _ ends given_back-world))))))

whole-legal : IsLegal eight (up ++ down)
unfolding is_reverse open_entries reverse_of
whole-legal = record {
  steps = ap is_some whole-world;
  in_turn = joined [] up down (forward [] up refl)
      (λ r. refl, (λ r. refl, (λ r. refl, (λ r. refl, (λ r. refl, (λ r. refl, (λ r. refl, (λ r. refl, (λ r. refl, (λ r. refl, (λ r. refl, (λ r. refl, (λ r. refl, tt)))))))))))));
}
