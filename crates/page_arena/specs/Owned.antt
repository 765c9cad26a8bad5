-- The ownership of a row (an array of items of type `R`), and of a shared borrow of the row.
use Rattle.std.specs.Prelude.{ℕ, ◌+◌, ◌*◌, ◌^◌, ◌<◌, List, ◌∷◌, ◌++◌, length, take, drop}
use Rattle.std.specs.Mem.{type_size}
use Rattle.core.specs.Allocator.{block_with_items}
use mir.Syntax.{Ty}
use base.Fml.{Fml, Lft}
use denote.RattleType.{RattleType}
use denote.RawPtr.{Ptr}
use denote.Array.{Array}
use denote.Struct.Lending.{lent_at}

-- The ownership of an allocation that has capacity for `room` items and begins with `items`; `right` is the right to
-- free it.
abbrev pub row_owns : (Ty → Ptr → Fml) → (R : RattleType) → Ptr → ℕ → List R.Denot → Fml
row_owns right R at room items = block_with_items right R at (length items) room items

abbrev pub row_lends : (R : RattleType) → Ptr → List R.Denot → Lft → Fml
row_lends R at items = lent_at (Array R (length items)) at items

-- The number of items is below 2^63, and so is the number of bytes that they take.
abbrev pub Reaches : RattleType → ℕ → Type 0
Reaches R count = (count * type_size R < 2 ^ 63) × (count < 2 ^ 63)

-- the list with `item` put at an index, in place of the item there or after the last item
abbrev pub put_at : {X : Type 0} → List X → ℕ → X → List X
put_at items index item = take index items ++ item ∷ drop (index + 1) items
