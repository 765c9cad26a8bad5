-- An example of two tables of the same level: when one is destroyed, the rows of the other stay.
use Rattle.std.proofs.Common.{◌≡◌, ◌+◌, ◌*◌, true, false, Some, None, [], ◌∷◌, refl, ap, ◌∙◌, arith, lit≤}
use Rattle.std.specs.FinMap.{get}
use Rattle.std.specs.Option.{option_eq}
use Rattle.std.specs.Prelude.{nat_eq, option_map}
use Rattle.realm_model.specs.declared.act.Act.TheVariants.{Rtt, UnRtt}
use Rattle.realm_model.specs.declared.states.Ripas.TheVariants.{Empty, Destroyed}
use Rattle.realm_model.specs.Rows.{Row, Rows, put_row, with_table, without_table, is_unassigned, is_table_unused, unassigned, table, is_unassigned_state}
use Rattle.realm_model.specs.Ownership.{mapping_of_row, Mapping}
use Rattle.realm_model.specs.Machine.{Cell}
use Rattle.realm_model.specs.Act.{named}
use Rattle.realm_model.specs.Command.Check.{check, with_realm, with_granule}
use Rattle.realm_model.specs.Outcome.{outcome_of, fits}
use Rattle.realm_model.specs.World.{World, realm_from, updated_all}
use Rattle.realm_model.specs.Step.{step}
use Rattle.realm_model.specs.Undoing.{by}
use Rattle.realm_model.proofs.Outcomes.{check_true, end_there}
use Rattle.realm_model.proofs.RowKinds.{Vacant}
use Rattle.realm_model.proofs.Rows.{put_there, all_rows_from}
use Rattle.realm_model.proofs.Walks.{walk_there}
use Rattle.realm_model.proofs.Examples.Worlds.{machine_of, delegated, rd, table_page, start_rows, fresh, world_of, step_by}
use Rattle.realm_model.proofs.Examples.Tables.{vacant, leads, apart, within_table, beside_table, without, tabled, tabled-above, tabled-beside, tabled-first, tabled-last}

-- the world of a realm on four granules, given the realm's rows and the cells of granules 2 and 3
abbrev world : Rows → Cell → Cell → World
world rows third fourth = world_of (rd (record fresh { rows = rows }) ∷ table_page ∷ third ∷ fourth ∷ [])

-- the rows with two tables of level 2, one for the first GiB and one for the second
abbrev two : Rows
two = with_table tabled 2 262144 3 Empty

two-above : get two (1, 0) ≡ Some (leads 2)
two-above = beside_table tabled 2 262144 3 Empty (1, 0) (λ k less. refl) ∙ tabled-above

two-beside : get two (1, 262144) ≡ Some (leads 3)
two-beside = beside_table tabled 2 262144 3 Empty (1, 262144) (λ k less. refl)

two-first : get two (2, 0) ≡ Some (vacant Empty)
two-first = beside_table tabled 2 262144 3 Empty (2, 0) (λ k less. apart 2 0 (262144 + k * 512) (λ e. omega arith)) ∙ tabled-first

two-last : get two (2, 261632) ≡ Some (vacant Empty)
two-last = beside_table tabled 2 262144 3 Empty (2, 261632) (λ k less. apart 2 261632 (262144 + k * 512) (λ e. omega arith)) ∙ tabled-last

other-first : get two (2, 262144) ≡ Some (vacant Empty)
other-first = within_table tabled 2 262144 3 Empty 0 (lit≤ tt)

other-last : get two (2, 523776) ≡ Some (vacant Empty)
other-last = within_table tabled 2 262144 3 Empty 511 (lit≤ tt)

made : step (machine_of 4) (world tabled table_page delegated) (by 0 (Rtt 3 262144 2)) ≡ Some (world two table_page table_page)
unfolding named outcome_of fits updated_all check realm_from with_realm
made = step_by (machine_of 4) _ _ (by 0 (Rtt 3 262144 2)) _ refl (end_there tabled 262144 1 _ _ (walk_there tabled 262144 1 (vacant Empty) (lit≤ tt) tabled-beside)) refl

-- ---- the first table is destroyed

abbrev second_left : Rows
second_left = without_table two 2 0

second_left-above : get second_left (1, 0) ≡ Some (vacant Destroyed)
second_left-above = without two 2 0 (1, 0)

second_left-beside : get second_left (1, 262144) ≡ Some (leads 3)
second_left-beside = without two 2 0 (1, 262144) ∙ two-beside

second_left-first : get second_left (2, 262144) ≡ Some (vacant Empty)
second_left-first = without two 2 0 (2, 262144) ∙ other-first

second_left-last : get second_left (2, 523776) ≡ Some (vacant Empty)
second_left-last = without two 2 0 (2, 523776) ∙ other-last

second_left-gone : get second_left (2, 0) ≡ None
second_left-gone = without two 2 0 (2, 0)

unused : is_table_unused two 2 0 ≡ true
unfolding is_table_unused with_table
unused = all_rows_from is_unassigned passes two 2 0 512 (λ k less.
    ap (option_map mapping_of_row)
    (beside_table tabled 2 262144 3 Empty (2, 0 + k * 512) (λ j below. apart 2 (0 + k * 512) (262144 + j * 512) (λ e. omega (arith, less))))
    ∙ put_there (unassigned Empty) (put_row start_rows 1 0 (table 2)) 2 0 512 k less)
  where
    passes : (row : Row) → mapping_of_row row ≡ Vacant → is_unassigned row ≡ true
    passes row e = ap (λ (p : Mapping). is_unassigned_state p.state) e

gone : step (machine_of 4) (world two table_page table_page) (by 0 (UnRtt 2 0 2)) ≡ Some (world second_left delegated table_page)
unfolding named outcome_of fits updated_all realm_from with_realm with_granule
gone = step_by (machine_of 4) _ _ (by 0 (UnRtt 2 0 2)) _
    (ap (λ o. elim o [ Some r ↦ option_eq nat_eq r.granule (Some 2) | None ↦ false ]) two-above)
    (check_true _ _ _ refl ∙ end_there two 0 1 _ _ (walk_there two 0 1 (leads 2) (lit≤ tt) two-above) ∙ check_true _ _ _ refl ∙ check_true _ _ _ refl ∙ check_true _ _ _ unused)
    refl

-- ---- the second table is destroyed

abbrev first_left : Rows
first_left = without_table two 2 262144

first_left-above : get first_left (1, 0) ≡ Some (leads 2)
first_left-above = without two 2 262144 (1, 0) ∙ two-above

first_left-first : get first_left (2, 0) ≡ Some (vacant Empty)
first_left-first = without two 2 262144 (2, 0) ∙ two-first

first_left-last : get first_left (2, 261632) ≡ Some (vacant Empty)
first_left-last = without two 2 262144 (2, 261632) ∙ two-last

first_left-gone : get first_left (2, 262144) ≡ None
first_left-gone =
    without two 2 262144 (2, 262144)
