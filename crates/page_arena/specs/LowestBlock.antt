-- The block that the simple page store takes, which is the lowest free block of the requested order.
use Rattle.std.specs.Prelude.{ℕ, ◌+◌, ◌%◌, ◌^◌, ◌==◌, ◌&&◌, Bool, nat_le, List, length, Option}
use Rattle.std.specs.List.{find, list_all, range_with_len}
use Rattle.page_arena.specs.Page.{is_free}

-- whether a free block of the given order begins at the given granule: aligned, inside the machine, and with each
-- granule free
unfoldable pub begins_free_block : List Bool → ℕ → ℕ → Bool
begins_free_block flags order first =
    first % 2 ^ order == 0 && (nat_le (first + 2 ^ order) (length flags) && list_all (is_free flags) (range_with_len first (2 ^ order)))

-- the first granule of the lowest free block of an order, or none if no block of that order is free
unfoldable pub lowest_block : List Bool → ℕ → Option ℕ
lowest_block flags order = find (begins_free_block flags order) (range_with_len 0 (length flags))
