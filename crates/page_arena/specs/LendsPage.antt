-- A mutable borrow of one page, and the pages after the borrow.
use Rattle.std.specs.Prelude.{ℕ, List, slice_set}
use Rattle.std.specs.Borrow.{Fml, MutBor, Array, u8, Lends}
use Rattle.page_arena.specs.contracts.pages.RawPages.{the_row}

abbrev pub lends_page : MutBor (List (List ℕ)) → ℕ → MutBor (List ℕ) → Fml
lends_page pages index page = Lends the_row (Array u8 4096) pages page (λ w. slice_set pages.now index w)
