-- An example of a table that is created, destroyed and created again, with the realm's rows after each command.
use Rattle.std.proofs.Common.{◌≡◌, ℕ, ◌+◌, ◌-◌, ◌*◌, ◌<◌, true, false, cond, not, Some, None, Err, List, [], ◌∷◌, ◌++◌, refl, ap, ◌∙◌, arith, lit≤}
use Rattle.std.specs.FinMap.{get, empty, get-insert, get-empty}
use Rattle.std.specs.Option.{option_eq}
use Rattle.std.specs.Ordering.{eq_by_cmp}
use Rattle.std.specs.Prelude.{nat_eq, is_some, option_and_then}
use Rattle.granule_addr.specs.Ipa.{covered_count, first_covered}
use Rattle.granule_addr.specs.Page.{zero_page}
use Rattle.granule_addr.specs.Root.{start_count}
use Rattle.realm_model.specs.declared.act.Act.TheVariants.{Rtt, UnRtt, Data}
use Rattle.realm_model.specs.declared.rmi.Status.TheVariants.{Rtt as OfRtt}
use Rattle.realm_model.specs.declared.states.EntryState.TheVariants.{Unassigned, Table}
use Rattle.realm_model.specs.declared.states.Ripas.{Ripas}
use Rattle.realm_model.specs.declared.states.Ripas.TheVariants.{Empty, Destroyed}
use Rattle.realm_model.specs.Rows.{Row, Rows, place_cmp, walk, root_rows, put_row, drop_rows, with_table, without_table, is_unassigned, is_table_unused, unassigned, table, is_unassigned_state}
use Rattle.realm_model.specs.Ownership.{mapping_of_row, Mapping}
use Rattle.realm_model.specs.declared.act.Event.{Event}
use Rattle.realm_model.specs.Machine.{Cell}
use Rattle.realm_model.specs.Act.{named, reverse_of, is_reverse}
use Rattle.realm_model.specs.Command.Check.{check, with_realm, with_granule}
use Rattle.realm_model.specs.Outcome.{outcome_of, fits}
use Rattle.realm_model.specs.World.{World, realm_from, updated_all, opening}
use Rattle.realm_model.specs.Step.{step, outcome_in}
use Rattle.realm_model.specs.History.{after, replay, open_entries, IsLegal}
use Rattle.realm_model.specs.Undoing.{by}
use Rattle.realm_model.proofs.Booleans.{false_from}
use Rattle.realm_model.proofs.HistoryParts.{after_append}
use Rattle.realm_model.proofs.Maps.{place_total, same_place}
use Rattle.realm_model.proofs.Outcomes.{check_true, end_there}
use Rattle.realm_model.proofs.RowKinds.{Vacant}
use Rattle.realm_model.proofs.Rows.{differs, is_among, get-put_rows, get-put_rows_other, get-drop_rows, put_there, all_rows_from}
use Rattle.realm_model.proofs.Walks.{walk_there, walk_above}
use Rattle.realm_model.proofs.Examples.Worlds.{machine_of, page, delegated, rd, table_page, start_rows, fresh, world_of, step_by, and_then, at_end, forward, joined}
use Rattle.realm_model.proofs.Examples.Realms.{on_four, on_four-world}

-- an UNASSIGNED row with the given RIPAS; `leads` is a TABLE row that leads to the given granule
abbrev pub vacant : Ripas → Row
vacant ripas = record { state = Unassigned; ripas = ripas; granule = None }

abbrev pub leads : ℕ → Row
leads granule = record { state = Table; ripas = Empty; granule = Some granule }

-- two places of one level with different IPA granules differ
pub apart : (level i k : ℕ) → (i ≡ k → ⊥) → differs (level, i) (level, k)
apart level i k other = false_from _ (λ e. other (ap (λ (p : ℕ × ℕ). p.1) (same_place (level, i) (level, k) e)))

-- ---- rows with a table, and without it, place by place

module _ (rows : Rows) (level ipa : ℕ) where
  -- the place of the row that leads to the table
  abbrev up : ℕ × ℕ
  up = (level - 1, first_covered (level - 1) ipa)

  pub within_table : (granule : ℕ) (ripas : Ripas) (k : ℕ) → k < 512 → get (with_table rows level ipa granule ripas) (level, ipa + k * covered_count level) ≡ Some (unassigned ripas)
  unfolding with_table
  within_table granule ripas k few = get-put_rows (λ _. unassigned ripas) (put_row rows (level - 1) ipa (table granule)) level ipa 512 k few

  pub beside_table : (granule : ℕ) (ripas : Ripas) (q : ℕ × ℕ) → ((k : ℕ) → k < 512 → differs q (level, ipa + k * covered_count level))
      → get (with_table rows level ipa granule ripas) q ≡ cond (eq_by_cmp place_cmp q up) (Some (table granule)) (get rows q)
  unfolding with_table
  beside_table granule ripas q apart =
      get-put_rows_other (λ _. unassigned ripas) (put_row rows (level - 1) ipa (table granule)) level ipa 512 q apart ∙ get-insert place_total rows up (table granule) q

  pub without : (q : ℕ × ℕ) → get (without_table rows level ipa) q
      ≡ cond (eq_by_cmp place_cmp q up) (Some (unassigned Destroyed)) (cond (not (is_among level ipa (512 * covered_count level) q)) (get rows q) None)
  unfolding without_table
  without q =
      get-insert place_total (drop_rows rows level ipa (512 * covered_count level)) up (unassigned Destroyed) q
      ∙ ap (cond (eq_by_cmp place_cmp q up) (Some (unassigned Destroyed))) (get-drop_rows rows level ipa (512 * covered_count level) q)

-- ---- the rows of a new realm: 512 of level 1 for each starting table

module _ (width : ℕ) where
  pub root-row : (k : ℕ) → k < 512 * start_count width → get (root_rows width) (1, 0 + k * 262144) ≡ Some (vacant Empty)
  unfolding root_rows
  root-row k less = get-put_rows (λ _. unassigned Empty) empty 1 0 (512 * start_count width) k less

  pub beside_root : (q : ℕ × ℕ) → ((k : ℕ) → k < 512 * start_count width → differs q (1, 0 + k * 262144)) → get (root_rows width) q ≡ None
  unfolding root_rows
  beside_root q apart = get-put_rows_other (λ _. unassigned Empty) empty 1 0 (512 * start_count width) q apart ∙ get-empty place_cmp q

-- the rows of a single starting table are UNASSIGNED, and there are no rows beside or below them

root-first : get start_rows (1, 0) ≡ Some (vacant Empty)
root-first = root-row 39 0 (lit≤ tt)

root-second : get start_rows (1, 262144) ≡ Some (vacant Empty)
root-second = root-row 39 1 (lit≤ tt)

root-last : get start_rows (1, 133955584) ≡ Some (vacant Empty)
root-last = root-row 39 511 (lit≤ tt)

root-past : get start_rows (1, 134217728) ≡ None
root-past = beside_root 39 (1, 134217728) (λ k less. apart 1 134217728 (0 + k * 262144) (λ e. omega arith))

root-two : get start_rows (2, 0) ≡ None
root-two = beside_root 39 (2, 0) (λ k less. refl)

root-three : get start_rows (3, 0) ≡ None
root-three = beside_root 39 (3, 0) (λ k less. refl)

pub root-walk : walk start_rows 0 1 ≡ Some (record { level = 1; row = vacant Empty })
root-walk = walk_there start_rows 0 1 (vacant Empty) (lit≤ tt) root-first

-- ---- a realm of four pages, with a DELEGATED granule, or a table, as the third

abbrev world : Rows → Cell → World
world rows third = world_of (rd (record fresh { rows = rows }) ∷ table_page ∷ third ∷ page zero_page ∷ [])

-- without tables a page of data is refused at level 1
data-refused : outcome_in (machine_of 4) (world start_rows delegated) (by 0 (Data 2 0 3)) ≡ Err (record { status = OfRtt; index = 1 })
unfolding named outcome_of check realm_from with_realm
data-refused =
    end_there start_rows 0 3 _ (record { level = 1; row = vacant Empty })
    (walk_above start_rows 0 2 root-three ∙ walk_above start_rows 0 1 root-two ∙ root-walk)

-- ---- a table of level 2

abbrev pub tabled : Rows
tabled = with_table start_rows 2 0 2 Empty

pub tabled-above : get tabled (1, 0) ≡ Some (leads 2)
tabled-above = beside_table start_rows 2 0 2 Empty (1, 0) (λ k less. refl)

pub tabled-beside : get tabled (1, 262144) ≡ Some (vacant Empty)
tabled-beside = beside_table start_rows 2 0 2 Empty (1, 262144) (λ k less. refl) ∙ root-second

pub tabled-first : get tabled (2, 0) ≡ Some (vacant Empty)
tabled-first = within_table start_rows 2 0 2 Empty 0 (lit≤ tt)

pub tabled-last : get tabled (2, 261632) ≡ Some (vacant Empty)
tabled-last = within_table start_rows 2 0 2 Empty 511 (lit≤ tt)

tabled-past : get tabled (2, 262144) ≡ None
tabled-past = beside_table start_rows 2 0 2 Empty (2, 262144) (λ k less. apart 2 262144 (0 + k * 512) (λ e. omega arith)) ∙ beside_root 39 (2, 262144) (λ k less. refl)

made : step (machine_of 4) (world start_rows delegated) (by 0 (Rtt 2 0 2)) ≡ Some (world tabled table_page)
unfolding named outcome_of fits updated_all check realm_from with_realm
made = step_by (machine_of 4) _ _ (by 0 (Rtt 2 0 2)) _ refl (end_there start_rows 0 1 _ _ root-walk) refl

-- ---- the table is destroyed

abbrev untabled : Rows
untabled = without_table tabled 2 0

untabled-above : get untabled (1, 0) ≡ Some (vacant Destroyed)
untabled-above = without tabled 2 0 (1, 0)

untabled-beside : get untabled (1, 262144) ≡ Some (vacant Empty)
untabled-beside = without tabled 2 0 (1, 262144) ∙ tabled-beside

untabled-first : get untabled (2, 0) ≡ None
untabled-first = without tabled 2 0 (2, 0)

untabled-last : get untabled (2, 261632) ≡ None
untabled-last = without tabled 2 0 (2, 261632)

unused : is_table_unused tabled 2 0 ≡ true
unfolding is_table_unused with_table
unused = all_rows_from is_unassigned passes tabled 2 0 512 (λ k less. put_there (unassigned Empty) (put_row start_rows 1 0 (table 2)) 2 0 512 k less)
  where
    passes : (row : Row) → mapping_of_row row ≡ Vacant → is_unassigned row ≡ true
    passes row e = ap (λ (p : Mapping). is_unassigned_state p.state) e

gone : step (machine_of 4) (world tabled table_page) (by 0 (UnRtt 2 0 2)) ≡ Some (world untabled delegated)
unfolding named outcome_of fits updated_all realm_from with_realm with_granule
gone = step_by (machine_of 4) _ _ (by 0 (UnRtt 2 0 2)) _
    (ap (λ o. elim o [ Some r ↦ option_eq nat_eq r.granule (Some 2) | None ↦ false ]) tabled-above)
    (check_true _ _ _ refl ∙ end_there tabled 0 1 _ _ (walk_there tabled 0 1 (leads 2) (lit≤ tt) tabled-above) ∙ check_true _ _ _ refl ∙ check_true _ _ _ refl ∙ check_true _ _ _ unused)
    refl

-- ---- the table is created again: its rows have the RIPAS of the row above

clone : step (machine_of 4) (world untabled delegated) (by 0 (Rtt 2 0 2)) ≡ Some (world (with_table untabled 2 0 2 Destroyed) table_page)
unfolding named outcome_of fits updated_all check realm_from with_realm
clone = step_by (machine_of 4) _ _ (by 0 (Rtt 2 0 2)) _ refl (end_there untabled 0 1 _ _ (walk_there untabled 0 1 (vacant Destroyed) (lit≤ tt) untabled-above)) refl

clone-above : get (with_table untabled 2 0 2 Destroyed) (1, 0) ≡ Some (leads 2)
clone-above = beside_table untabled 2 0 2 Destroyed (1, 0) (λ k less. refl)

clone-first : get (with_table untabled 2 0 2 Destroyed) (2, 0) ≡ Some (vacant Destroyed)
clone-first = within_table untabled 2 0 2 Destroyed 0 (lit≤ tt)

abbrev then : List Event
then = by 0 (Rtt 2 0 2) ∷ by 0 (UnRtt 2 0 2) ∷ by 0 (Rtt 2 0 2) ∷ []

then-world : replay (machine_of 4) (on_four ++ then) ≡ Some (world (with_table untabled 2 0 2 Destroyed) table_page)
then-world =
    after_append (machine_of 4) on_four then (opening (machine_of 4)) ∙ ap (option_and_then (after (machine_of 4) then)) on_four-world
    ∙ and_then (machine_of 4) _ _ _ _ _ made (and_then (machine_of 4) _ _ _ _ _ gone (and_then (machine_of 4) _ _ _ _ _ clone (at_end (machine_of 4) _)))

then-legal : IsLegal (machine_of 4) (on_four ++ then)
unfolding is_reverse open_entries reverse_of
then-legal = record {
  steps = ap is_some then-world;
  in_turn = joined [] on_four then (forward [] on_four refl) (λ r. cc, (λ r. refl, (λ r. cc, tt)));
}
