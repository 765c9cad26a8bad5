-- An example of a table of level 3 in which some pages become RAM.
use Rattle.std.proofs.Common.{◌≡◌, ℕ, ◌+◌, ◌*◌, ◌<◌, true, Some, refl, ap, ◌∙◌, arith, lit≤}
use Rattle.std.specs.Prelude.{option_map}
use Rattle.std.specs.FinMap.{get, get-insert}
use Rattle.realm_model.specs.declared.states.Ripas.TheVariants.{Empty, Ram}
use Rattle.realm_model.specs.Rows.{Row, Rows, put_row, with_table, with_ram, all_rows, as_ram, is_unassigned, unassigned, table, is_unassigned_state}
use Rattle.realm_model.specs.Ownership.{mapping_of_row, Mapping}
use Rattle.realm_model.proofs.Maps.{place_total}
use Rattle.realm_model.proofs.RowKinds.{Vacant}
use Rattle.realm_model.proofs.Rows.{get-put_rows, get-put_rows_other, all_rows_from}
use Rattle.realm_model.proofs.Examples.Tables.{vacant, leads, apart, tabled}

-- the rows with a table of level 3 at IPA granule 0
abbrev pub mapped : Rows
mapped = with_table tabled 3 0 3 Empty

mapped-above : get mapped (2, 0) ≡ Some (leads 3)
unfolding with_table
mapped-above =
    get-put_rows_other (λ _. unassigned Empty) (put_row tabled 2 0 (table 3)) 3 0 512 (2, 0) (λ k less. refl)
    ∙ get-insert place_total tabled (2, 0) (table 3) (2, 0)

-- each of the 512 rows of this table is UNASSIGNED and EMPTY
pub mapped-row : (k : ℕ) → k < 512 → get mapped (3, 0 + k * 1) ≡ Some (vacant Empty)
unfolding with_table
mapped-row k less = get-put_rows (λ _. unassigned Empty) (put_row tabled 2 0 (table 3)) 3 0 512 k less

-- the rows after pages 8 to 11 become RAM
abbrev pub ram : Rows
ram = with_ram mapped 8 4

ram-before : get ram (3, 7) ≡ Some (vacant Empty)
unfolding with_ram
ram-before = get-put_rows_other as_ram mapped 3 8 4 (3, 7) (λ k less. apart 3 7 (8 + k * 1) (λ e. omega arith)) ∙ mapped-row 7 (lit≤ tt)

pub ram-first : get ram (3, 8) ≡ Some (vacant Ram)
unfolding with_ram
ram-first = get-put_rows as_ram mapped 3 8 4 0 (lit≤ tt) ∙ ap (λ o. Some (as_ram o)) (mapped-row 8 (lit≤ tt))

ram-last : get ram (3, 11) ≡ Some (vacant Ram)
unfolding with_ram
ram-last = get-put_rows as_ram mapped 3 8 4 3 (lit≤ tt) ∙ ap (λ o. Some (as_ram o)) (mapped-row 11 (lit≤ tt))

ram-after : get ram (3, 12) ≡ Some (vacant Empty)
unfolding with_ram
ram-after = get-put_rows_other as_ram mapped 3 8 4 (3, 12) (λ k less. apart 3 12 (8 + k * 1) (λ e. omega arith)) ∙ mapped-row 12 (lit≤ tt)

pub ram-zero : get ram (3, 0) ≡ Some (vacant Empty)
unfolding with_ram
ram-zero = get-put_rows_other as_ram mapped 3 8 4 (3, 0) (λ k less. apart 3 0 (8 + k * 1) (λ e. omega arith)) ∙ mapped-row 0 (lit≤ tt)

pub ram-one : get ram (3, 1) ≡ Some (vacant Empty)
unfolding with_ram
ram-one = get-put_rows_other as_ram mapped 3 8 4 (3, 1) (λ k less. apart 3 1 (8 + k * 1) (λ e. omega arith)) ∙ mapped-row 1 (lit≤ tt)

pub all_free : all_rows is_unassigned mapped 3 8 4 ≡ true
all_free = all_rows_from is_unassigned passes mapped 3 8 4 (λ k less. ap (option_map mapping_of_row) (ap (λ n. get mapped (3, n)) (place k) ∙ mapped-row (8 + k) (omega arith)))
  where
    passes : (row : Row) → mapping_of_row row ≡ Vacant → is_unassigned row ≡ true
    passes row e = ap (λ (p : Mapping). is_unassigned_state p.state) e

    place : (k : ℕ) → 8 + k * 1 ≡ 0 + (8 + k) * 1
    place k = omega arith
