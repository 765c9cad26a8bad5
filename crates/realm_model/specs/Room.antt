-- The capacity that a build has used in a history, and the capacity that each operation takes.
use Rattle.std.specs.Prelude.{◌≡◌, ◌≢◌, ℕ, ◌+◌, List, [], ◌∷◌, ◌++◌, length, cond, Some}
use Rattle.std.specs.List.{sum_by}
use Rattle.realm_model.specs.declared.act.Act.{Act}
use Rattle.realm_model.specs.declared.act.Act.TheVariants.{Enter, Exit}
use Rattle.realm_model.specs.declared.act.Event.{Event}
use Rattle.realm_model.specs.Machine.{Limits}
use Rattle.realm_model.specs.Act.{is_paired, is_reverse}
use Rattle.realm_model.specs.World.{World, realm_of}
use Rattle.realm_model.specs.Step.{step}
use Rattle.realm_model.specs.History.{acts_of, open_entries, IsInTurn}
use Rattle.realm_model.specs.Running.{running_count}

-- The history capacity that a build has used: one entry for each of its events, for each open operation's reverse, and
-- for each running REC's exit.
abbrev pub used_room : ℕ → List Event → World → ℕ
used_room build history world =
    length (acts_of build history) + length (open_entries build history) + running_count (realm_of build world)

-- The history capacity that an operation takes: one entry for its event, and one more if its reverse or a REC's exit
-- will need one. A reverse and an exit use the entry that was kept for them.
unfoldable pub room_taken : Act → ℕ
room_taken (Enter number) = 2
room_taken (Exit number) = 0
room_taken act = cond (is_paired act) 2 (cond (is_reverse act) 0 1)

-- An accepted event takes the capacity of its operation from its own build, and no capacity from any other build.
pub record TakesRoom (history : List Event) (world : World) (event : Event) (next : World) : Type 0 where
  pub own : used_room event.build (history ++ event ∷ []) next ≡ used_room event.build history world + room_taken event.act
  pub others : (build : ℕ) → event.build ≢ build → used_room build (history ++ event ∷ []) next ≡ used_room build history world

-- an accepted event takes the capacity of its operation, if it is no reverse or undoes its build's newest open
-- operation
abbrev pub RoomIsTaken : Limits → List Event → World → Event → World → Type 0
RoomIsTaken limits history world event next = IsInTurn history event → step limits world event ≡ Some next → TakesRoom history world event next

-- The capacity that a build has used is the sum of the capacities that its operations took.
abbrev pub RoomIsSum : List Event → World → ℕ → Type 0
RoomIsSum history world build = used_room build history world ≡ sum_by room_taken (acts_of build history)
