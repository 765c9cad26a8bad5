-- The conditions that leaving out a build does not change the capacity used by the others, and that each remaining
-- event is accepted.
use Rattle.std.specs.Prelude.{◌≡◌, ◌≢◌, ℕ, ◌+◌, ◌<◌, ◌≤◌, true, List, [], ◌∷◌, ◌++◌, length, take, Some}
use Rattle.realm_model.specs.declared.act.Event.{Event}
use Rattle.realm_model.specs.Machine.{Limits}
use Rattle.realm_model.specs.Act.{is_paired}
use Rattle.realm_model.specs.World.{World, without}
use Rattle.realm_model.specs.Step.{step}
use Rattle.realm_model.specs.History.{erase, open_entries, replay, IsInTurn}
use Rattle.realm_model.specs.Room.{used_room, room_taken}

-- Leaving out a build changes neither the open operations nor the used capacity of another build.
pub record KeepsItsRoom (history : List Event) (world : World) (build other : ℕ) : Type 0 where
  pub left_open : open_entries other (erase build history) ≡ open_entries other history
  pub room : used_room other (erase build history) (without world build) ≡ used_room other history world

-- each build other than the one left out keeps its open operations and its used capacity
abbrev pub OthersKeepTheirRoom : List Event → World → ℕ → ℕ → Type 0
OthersKeepTheirRoom history world build other = build ≢ other → KeepsItsRoom history world build other

-- The event is accepted after the history `before`, with limits of `capacity` history entries and `most` open
-- operations for each build. The event satisfies `IsInTurn` and is a step, and its build has the capacity that the
-- event takes. If the event's operation has a reverse, the build has fewer than `most` operations open before.
pub record IsAccepted (limits : Limits) (capacity most : ℕ) (before : List Event) (event : Event) : Type 0 where
  pub world : World
  pub world_is : replay limits before ≡ Some world
  pub in_turn : IsInTurn before event
  pub room : used_room event.build before world + room_taken event.act ≤ capacity
  pub few_open : is_paired event.act ≡ true → length (open_entries event.build before) < most
  pub next : World
  pub stepped : step limits world event ≡ Some next

-- each of the events is accepted after the history `before` and the events that precede it
abbrev pub AllAccepted : Limits → ℕ → ℕ → List Event → List Event → Type 0
AllAccepted limits capacity most before [] = Unit {0}
AllAccepted limits capacity most before (event ∷ events) =
    IsAccepted limits capacity most before event × AllAccepted limits capacity most (before ++ event ∷ []) events

-- Each build other than `build` has used a capacity of at most `capacity` and has never had more than `most` operations
-- open.
pub record OthersHaveRoom (capacity most : ℕ) (history : List Event) (world : World) (build : ℕ) : Type 0 where
  pub used : (other : ℕ) → build ≢ other → used_room other history world ≤ capacity
  pub few_open : (other n : ℕ) → build ≢ other → length (open_entries other (take n history)) ≤ most

-- If the other builds stay within the given capacity and number of open operations, the events of the history without
-- `build` are accepted in sequence.
abbrev pub WhatIsLeftIsAccepted : Limits → ℕ → ℕ → List Event → World → ℕ → Type 0
WhatIsLeftIsAccepted limits capacity most history world build =
    OthersHaveRoom capacity most history world build → AllAccepted limits capacity most [] (erase build history)
