-- The effect of undoing one or all operations that a build has open, and the ownership after an operation or its
-- reverse.
use Rattle.std.specs.Prelude.{◌≡◌, ◌≢◌, ◌↔◌, ◌⊎◌, ℕ, List, [], ◌∷◌, ◌++◌, length, map, reverse, false, Some, None}
use Rattle.std.specs.List.{last_or, Contains}
use Rattle.realm_model.specs.declared.act.Act.{Act}
use Rattle.realm_model.specs.declared.act.Event.{Event}
use Rattle.realm_model.specs.Machine.{Limits}
use Rattle.realm_model.specs.Act.{reverse_of, is_paired, is_reverse}
use Rattle.realm_model.specs.World.{World, realm_of, free_set, part_of, without}
use Rattle.realm_model.specs.Step.{step}
use Rattle.realm_model.specs.Running.{is_running, IsAtRest}
use Rattle.realm_model.specs.Ownership.{OwnsSame}
use Rattle.realm_model.specs.History.{erase, open_entries, pages_of, replay, IsLegal}

abbrev pub by : ℕ → Act → Event
by build act = record { build = build; act = act }

-- the reverses of those operations in a list that have a reverse, in the same sequence
abbrev pub reverses : List Act → List Act
reverses [] = []
reverses (act ∷ acts) = elim (reverse_of act) [ Some r ↦ r ∷ reverses acts | None ↦ reverses acts ]

-- the events that reverse all that a build has open, the newest first
abbrev pub undoing : ℕ → List Event → List Event
undoing build history = map (by build) (reverses (reverse (open_entries build history)))

-- the history stays legal with the reverse of the build's newest open operation, and the build's other operations stay
-- open
pub record IsUndoneNext (limits : Limits) (history : List Event) (build : ℕ) (act : Act) : Type 0 where
  pub back : Act
  pub reverse_is : reverse_of act ≡ Some back
  pub legal : IsLegal limits (history ++ by build back ∷ [])
  pub left_open : open_entries build (history ++ by build back ∷ []) ++ act ∷ [] ≡ open_entries build history

-- All that a build has open is undone, by one reverse for each operation. The history then leads to the same world as
-- without the build's events, which is `world` without the build. The build's pages are free, free granules stay free,
-- and each other build keeps its part.
pub record IsUndone (limits : Limits) (history : List Event) (build : ℕ) (world : World) : Type 0 where
  pub legal : IsLegal limits (history ++ undoing build history)
  pub all : length (undoing build history) ≡ length (open_entries build history)
  pub after : World
  pub after_is : replay limits (history ++ undoing build history) ≡ Some after
  pub world_is : replay limits (erase build history) ≡ Some after
  pub same_others : erase build (history ++ undoing build history) ≡ erase build history
  pub none_open : open_entries build (history ++ undoing build history) ≡ []
  pub without_build : after ≡ without world build
  pub free : (granule : ℕ) → Contains (free_set after) granule ↔ (Contains (free_set world) granule ⊎ Contains (pages_of build history) granule)
  pub others : (other : ℕ) → other ≢ build → part_of after other ≡ part_of world other

-- ---- theorems, for every legal history and the world that it leads to

-- the newest open operation of a build can be undone, whatever came after it, unless it created a REC that runs
abbrev pub NewestCanBeUndone : Limits → List Event → ℕ → World → Act → Type 0
NewestCanBeUndone limits history build world act =
    last_or None (open_entries build history) ≡ Some act → is_running (realm_of build world) act ≡ false → IsUndoneNext limits history build act

-- if no REC of a build runs, all that the build has open can be undone, which leads to the world without the build
abbrev pub AllCanBeUndone : Limits → List Event → ℕ → World → Type 0
AllCanBeUndone limits history build world = IsAtRest (realm_of build world) → IsUndone limits history build world

-- if a build has nothing open, the history without the build leads to the same world
abbrev pub NothingOpenIsNoninterference : Limits → List Event → ℕ → World → Type 0
NothingOpenIsNoninterference limits history build world = open_entries build history ≡ [] → replay limits (erase build history) ≡ Some world

-- the operation `back` is accepted in the world `middle`, and leads to a world with the same ownership as `world`
pub record LeadsBack (limits : Limits) (build : ℕ) (world middle : World) (back : Act) : Type 0 where
  pub end : World
  pub stepped : step limits middle (by build back) ≡ Some end
  pub owns : OwnsSame world end

-- if an operation that has a reverse is accepted, the reverse is accepted directly after it, and restores the ownership
-- from before the operation
abbrev pub PairLeadsBack : Limits → ℕ → World → Act → Act → World → Type 0
PairLeadsBack limits build world act back middle =
    reverse_of act ≡ Some back → step limits world (by build act) ≡ Some middle → LeadsBack limits build world middle back

-- an operation that neither has a reverse nor is one leads to a world with the same ownership
abbrev pub OtherActOwnsSame : Limits → ℕ → World → Act → World → Type 0
OtherActOwnsSame limits build world act next =
    is_paired act ≡ false → is_reverse act ≡ false → step limits world (by build act) ≡ Some next → OwnsSame world next

-- the ownership after a given operation depends only on the ownership before it
abbrev pub OwnershipFollows : Limits → ℕ → Act → World → World → World → World → Type 0
OwnershipFollows limits build act w v next other =
    OwnsSame w v → step limits w (by build act) ≡ Some next → step limits v (by build act) ≡ Some other → OwnsSame next other
