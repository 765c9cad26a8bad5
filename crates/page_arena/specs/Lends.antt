-- A mutable borrow of one item of a row (an array of items), and the row after the borrow.
use Rattle.std.specs.Prelude.{◌≡◌, ℕ, ◌<◌, List, length, slice_set}
use Rattle.std.specs.Borrow.{Fml, RattleType, MutBor, Lends}
use Rattle.std.specs.declared.alloc.Allocator.{Ghosts}
use Rattle.page_arena.specs.Owned.{Reaches}
use Rattle.page_arena.specs.declared.row.Row.{Row}
use Rattle.page_arena.specs.declared.row.Start.{Start}
use Rattle.page_arena.specs.contracts.row.Row.{the_row}

-- The array begins at `start`, has an item at `index`, and has fewer than 2^63 items and fewer than 2^63 bytes.
abbrev pub HasItem : (R : RattleType) {A : Type 0} → Start R.Denot → Row R.Denot A → ℕ → Type 0
HasItem R start row index = (start.first ≡ row.at) × (index < length row.items) × Reaches R (length row.items)

-- the row with these items instead of its own
abbrev pub with_items : {X A : Type 0} → Row X A → List X → Row X A
with_items row items = record { mark = row.mark; at = row.at; room = row.room; items = items; alloc = row.alloc }

abbrev pub lends_item : (R A : RattleType) (g : Ghosts A.Denot) → MutBor (Row R.Denot A.Denot) → ℕ → MutBor R.Denot → Fml
lends_item R A g row index item = Lends (the_row R A g) R row item (λ w. with_items row.now (slice_set row.now.items index w))
