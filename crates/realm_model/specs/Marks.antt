-- The validity of marks (points to which a build can be rolled back), and the effect of a rollback.
use Rattle.std.specs.Prelude.{◌≡◌, ◌↔◌, ℕ, ◌≤◌, List, [], ◌∷◌, ◌++◌, length, map, reverse, take, drop, false, Some}
use Rattle.std.specs.List.{list_any}
use Rattle.realm_model.specs.declared.act.Act.{Act}
use Rattle.realm_model.specs.declared.act.Event.{Event}
use Rattle.realm_model.specs.Machine.{Limits}
use Rattle.realm_model.specs.World.{World, realm_of, without}
use Rattle.realm_model.specs.History.{erase, open_entries, replay, IsLegal}
use Rattle.realm_model.specs.Ownership.{OwnsSame}
use Rattle.realm_model.specs.Running.{is_running}
use Rattle.realm_model.specs.Undoing.{by, reverses}

-- a mark, given by its build, by the number of operations that the build had open when the mark was set, and by the
-- history's length at that moment
pub record Mark : Type 0 where
  pub build : ℕ
  pub depth : ℕ
  pub place : ℕ

abbrev pub mark_at : ℕ → List Event → Mark
mark_at build history = record { build = build; depth = length (open_entries build history); place = length history }

-- The mark is a point of this history at which its build had `depth` operations open, and the build has never had fewer
-- since.
pub record IsValidMark (mark : Mark) (history : List Event) : Type 0 where
  pub place : mark.place ≤ length history
  pub depth : length (open_entries mark.build (take mark.place history)) ≡ mark.depth
  pub since : (n : ℕ) → mark.place ≤ n → mark.depth ≤ length (open_entries mark.build (take n history))

-- A mark inside the history is valid after one more event exactly if it was valid before and its build has at least
-- `depth` operations open after the event.
abbrev pub StaysValid : Mark → List Event → Event → Type 0
StaysValid mark history event =
    mark.place ≤ length history → IsValidMark mark (history ++ event ∷ []) ↔ (IsValidMark mark history × (mark.depth ≤ length (open_entries mark.build (history ++ event ∷ []))))

-- The history without those events of a build that are at position `place` or later.
abbrev pub erase_after : ℕ → ℕ → List Event → List Event
erase_after build place history = take place history ++ erase build (drop place history)

-- the operations that the mark's build has open, without the `depth` oldest
abbrev pub above : Mark → List Event → List Act
above mark history = drop mark.depth (open_entries mark.build history)

-- the events that reverse the open operations that are newer than the mark, the newest first
abbrev pub rolling_back : Mark → List Event → List Event
rolling_back mark history = map (by mark.build) (reverses (reverse (above mark history)))

-- The build's open operations that are newer than the mark are undone, by one reverse for each. The world owns the same
-- as that of the history without what the build did after the mark. Outside the build's part the two are equal in full.
pub record IsRolledBack (limits : Limits) (mark : Mark) (history : List Event) : Type 0 where
  pub legal : IsLegal limits (history ++ rolling_back mark history)
  pub erased : IsLegal limits (erase_after mark.build mark.place history)
  pub same : erase_after mark.build mark.place (history ++ rolling_back mark history) ≡ erase_after mark.build mark.place history
  pub all : length (rolling_back mark history) ≡ length (above mark history)
  pub world : World
  pub world_is : replay limits (history ++ rolling_back mark history) ≡ Some world
  pub other : World
  pub other_is : replay limits (erase_after mark.build mark.place history) ≡ Some other
  pub owns : OwnsSame other world
  pub rest : without world mark.build ≡ without other mark.build
  pub left_open : open_entries mark.build (history ++ rolling_back mark history) ≡ open_entries mark.build (take mark.place history)

-- if the mark is valid and no REC created after it runs, the build can be rolled back to it
abbrev pub CanRollBack : Limits → List Event → Mark → World → Type 0
CanRollBack limits history mark world =
    IsValidMark mark history → list_any (is_running (realm_of mark.build world)) (above mark history) ≡ false → IsRolledBack limits mark history
