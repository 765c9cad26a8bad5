-- The rows that commands require in a realm's tables, and the levels that refusals report. RMM 1.0, RMI_ERROR_RTT.
use Rattle.std.specs.Prelude.{ℕ, ◌-◌, not}
use Rattle.realm_model.specs.Rows.{Row, Rows, is_unassigned, is_assigned, is_table, all_rows, is_table_unused}
use Rattle.realm_model.specs.Update.{Outcome}
use Rattle.realm_model.specs.Command.Check.{check, error_rtt, with_row}

-- The outcome that `f` gives for the row above a new table, if the walk ends at that row and it is not TABLE; otherwise
-- RMI_ERROR_RTT. RMM 1.0, RMI_RTT_CREATE.
abbrev pub with_room_for_table : Rows → ℕ → ℕ → (Row → Outcome) → Outcome
with_room_for_table rows ipa level f =
    with_row rows ipa (level - 1) (λ above. check (not (is_table above)) (error_rtt (level - 1)) (f above))

-- The outcome that `f` gives for the TABLE row above a table, if the walk ends there and the table has no ASSIGNED and
-- no TABLE row; otherwise RMI_ERROR_RTT. RMM 1.0, RMI_RTT_DESTROY.
abbrev pub with_unused_table : Rows → ℕ → ℕ → (Row → Outcome) → Outcome
with_unused_table rows ipa level f =
    with_row rows ipa (level - 1) (λ above.
    check (is_table above) (error_rtt (level - 1))
    (check (is_table_unused rows level ipa) (error_rtt level) (f above)))

-- The outcome that `f` gives for the row of a free page, if the walk ends at level 3 and the row is UNASSIGNED;
-- otherwise RMI_ERROR_RTT. RMM 1.0, RMI_DATA_CREATE, RMI_DATA_CREATE_UNKNOWN.
abbrev pub with_free_page : Rows → ℕ → (Row → Outcome) → Outcome
with_free_page rows ipa f = with_row rows ipa 3 (λ row. check (is_unassigned row) (error_rtt 3) (f row))

-- The outcome that `f` gives for the row of a mapped page, if the walk ends at level 3 and the row is ASSIGNED;
-- otherwise RMI_ERROR_RTT. RMM 1.0, RMI_DATA_DESTROY.
abbrev pub with_mapped_page : Rows → ℕ → (Row → Outcome) → Outcome
with_mapped_page rows ipa f = with_row rows ipa 3 (λ row. check (is_assigned row) (error_rtt 3) (f row))

-- The outcome that `f` gives for the first of `count` rows of level 3, if the walk ends at it and all of them are
-- UNASSIGNED; otherwise RMI_ERROR_RTT. RMM 1.0, RMI_RTT_INIT_RIPAS.
abbrev pub with_free_pages : Rows → ℕ → ℕ → (Row → Outcome) → Outcome
with_free_pages rows ipa count f = with_row rows ipa 3 (λ row. check (all_rows is_unassigned rows 3 ipa count) (error_rtt 3) (f row))
