-- The value of one word of a granule, whatever the granule's state; a host can read only UNDELEGATED granules. This
-- reading is this RMM's own.
use Rattle.std.specs.Prelude.{ℕ, ◌&&◌, nat_lt, Option, Some, None, if◌then◌else◌}
use Rattle.page_arena.specs.Word.{word_of_page}
use Rattle.rmm_model.specs.Machine.{Machine, page_in, is_aligned, is_inside, number_of}

-- word i of the granule that begins at an address, whatever the granule's state; none if there is no such word
abbrev pub word_shown : Machine → ℕ → ℕ → Option ℕ
word_shown m address i =
    if is_aligned address && is_inside m address && nat_lt i 512 then Some (word_of_page (page_in m (number_of m address)) i) else None
