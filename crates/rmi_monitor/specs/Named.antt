-- A search of the machine for the REC that a granule holds.
use Rattle.std.specs.Prelude.{ℕ, ◌==◌, List, [], length, Bool, false, Option, Some, None, is_some, option_map, option_and_then}
use Rattle.std.specs.List.{find, range_with_len}
use Rattle.std.specs.FinMap.{keys}
use Rattle.realm_model.specs.Machine.{RecRow, Machine, cell_at}
use Rattle.rmi_monitor.specs.Attributes.{RecAttributes}
use Rattle.rmi_monitor.specs.View.{rec_in}

-- the granule holds the REC with the given number in the realm whose RD is `rd`
unfoldable pub is_rec_at : Machine → ℕ → ℕ → ℕ → Bool
is_rec_at machine granule rd number = elim (rec_in machine rd number) [ Some rec ↦ rec.granule == granule | None ↦ false ]

-- the REC numbers in the realm whose RD is `rd`; none if there is no such realm
unfoldable pub numbers_in : Machine → ℕ → List ℕ
numbers_in machine rd = elim (cell_at machine rd).descriptor [ Some realm ↦ keys realm.recs | None ↦ [] ]

-- the number of the granule's REC, if that REC is in the realm whose RD is `rd`
unfoldable pub number_in : Machine → ℕ → ℕ → Option ℕ
number_in machine granule rd = find (is_rec_at machine granule rd) (numbers_in machine rd)

-- the REC that the granule holds, as its realm's RD and its number; none if the granule holds no REC
unfoldable pub rec_named : Machine → ℕ → Option (ℕ × ℕ)
rec_named machine granule =
    option_and_then (λ rd. option_map (λ number. (rd, number)) (number_in machine granule rd))
    (find (λ rd. is_some (number_in machine granule rd)) (range_with_len 0 (length machine)))

-- a REC's own attributes, from its number and its record
abbrev pub rec_attributes_of : ℕ → RecRow → RecAttributes
rec_attributes_of number row = record { number = number; state = row.state; auxiliaries = row.auxiliaries }

-- the attributes of the REC that the granule holds, if it holds one
abbrev pub rec_attributes_at : Machine → ℕ → Option RecAttributes
rec_attributes_at machine granule =
    option_and_then (λ named. option_map (rec_attributes_of named.1) (rec_in machine named.0 named.1)) (rec_named machine granule)
