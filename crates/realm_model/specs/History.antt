-- The definitions of open operations, of replay, of legal histories, and of a history without one build's events.
use Rattle.std.specs.Prelude.{◌≡◌, ℕ, List, [], ◌∷◌, ◌++◌, Bool, false, cond, ◌&&◌, ◌||◌, ◌==◌, not, IsTrue, map, filter, length, Option, Some, None, IsSome, option_map, option_and_then}
use Rattle.std.specs.List.{last_or, flat_map}
use Rattle.realm_model.specs.declared.act.Act.{Act}
use Rattle.realm_model.specs.declared.act.Act.TheVariants.{Take}
use Rattle.realm_model.specs.declared.act.Event.{Event}
use Rattle.realm_model.specs.Machine.{Limits}
use Rattle.realm_model.specs.Act.{block, reverse_of, is_paired, is_reverse}
use Rattle.realm_model.specs.World.{World, opening, without}
use Rattle.realm_model.specs.Step.{step}

-- The history without the events of a build; the other events stay in sequence.
abbrev pub erase : ℕ → List Event → List Event
erase build history = filter (λ event. not (event.build == build)) history

-- the events of a build, in sequence
abbrev pub events_of : ℕ → List Event → List Event
events_of build history = filter (λ event. event.build == build) history

-- the operations of a build, in sequence
abbrev pub acts_of : ℕ → List Event → List Act
acts_of build history = map (λ event. event.act) (events_of build history)

-- ---- what is open: a reverse operation matches the latest paired one before it such that between the two there are
-- ---- as many paired as reverse operations

-- the list has as many operations that have a reverse as operations that are reverses
abbrev pub is_balanced : List Act → Bool
is_balanced acts = length (filter is_paired acts) == length (filter is_reverse acts)

-- some operation in the list has a reverse, and the operations after it in the list are balanced (see `is_balanced`)
abbrev pub has_nearer : List Act → Bool
has_nearer [] = false
has_nearer (act ∷ acts) = (is_paired act && is_balanced acts) || has_nearer acts

-- An operation that is followed by the list `between`, and then by the second list, is matched by some reverse in the
-- second list. Between the operation and this reverse there are as many paired as reverse operations, and this holds of
-- no later paired operation.
abbrev pub is_matched : List Act → List Act → Bool
is_matched between [] = false
is_matched between (act ∷ rest) =
    (is_reverse act && is_balanced between && not (has_nearer between)) || is_matched (between ++ act ∷ []) rest

-- the operations that have a reverse and that no reverse in the list matches, in sequence
abbrev pub unmatched : List Act → List Act
unmatched [] = []
unmatched (act ∷ acts) = cond (is_paired act && not (is_matched [] acts)) (act ∷ unmatched acts) (unmatched acts)

-- The operations that a build has open, which have a reverse and are not reversed yet.
unfoldable pub open_entries : ℕ → List Event → List Act
open_entries build history = unmatched (acts_of build history)

-- the pages that an open operation gives its build, which are the granules of the block for a Take; none for any other
-- operation
abbrev pub pages_held : Act → List ℕ
pages_held (Take order first) = block order first
pages_held _ = []

-- The granules of the blocks that a build has taken and not given back, in the order in which it took them. The build's
-- page k is the k-th, from 0.
abbrev pub pages_of : ℕ → List Event → List ℕ
pages_of build history = flat_map pages_held (open_entries build history)

-- ---- replay

-- the world after the events in sequence, or None if one of them is not accepted
unfoldable pub after : Limits → List Event → World → Option World
after limits [] world = Some world
after limits (event ∷ events) world = option_and_then (after limits events) (step limits world event)

-- The world to which a history leads from the opening world, or None if one of its events is not accepted.
abbrev pub replay : Limits → List Event → Option World
replay limits history = after limits history (opening limits)

-- ---- legal histories

-- if the event is a reverse, it undoes the newest operation that its build has open before the event
abbrev pub IsInTurn : List Event → Event → Type 0
IsInTurn before event =
    IsTrue (is_reverse event.act) → option_and_then reverse_of (last_or None (open_entries event.build before)) ≡ Some event.act

-- `IsInTurn` holds of each of the events, after the history `before` and the events that precede it
abbrev pub AllInTurn : List Event → List Event → Type 0
AllInTurn before [] = Unit {0}
AllInTurn before (event ∷ events) = IsInTurn before event × AllInTurn (before ++ event ∷ []) events

-- Each event of the history is accepted at its place, and each reverse undoes its build's newest open operation.
pub record IsLegal (limits : Limits) (history : List Event) : Type 0 where
  pub steps : IsSome (replay limits history)
  pub in_turn : AllInTurn [] history

-- ---- a history without a build

-- The history without a build is legal, and leads to the world without that build.
abbrev pub Noninterference : Limits → List Event → ℕ → Type 0
Noninterference limits history build =
    IsLegal limits (erase build history)
    × (replay limits (erase build history) ≡ option_map (λ world. without world build) (replay limits history))
