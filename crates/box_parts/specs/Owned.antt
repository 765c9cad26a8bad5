-- The ownership of a box on the C library's heap, as a predicate of the box's pointer.
use Rattle.std.specs.Prelude.{Option, Some, None}
use mir.Syntax.{Ty}
use base.Fml.{Fml, ftrue}
use denote.RattleType.{RattleType}
use denote.RawPtr.{Ptr}
use Rattle.std_alloc.specs.Box.Ownership.{box_owns}
use Rattle.std_heap.specs.contracts.GlobalAllocator.TheImpl.{ghosts}

-- the permission to free this pointer's block, which was allocated on the C library's heap for a value of this type
abbrev pub right : Ty → Ptr → Fml
right = ghosts.dealloc_token (record { memory = record { seal = tt } })

-- ownership of the given value at the pointer, with the permission to free its block; for `None`, nothing
abbrev pub held_owns : (R : RattleType) → Ptr → Option R.Denot → Fml
held_owns R at (Some x) = box_owns right R at x
held_owns R at None = ftrue
