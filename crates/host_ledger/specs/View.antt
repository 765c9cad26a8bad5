-- The view of a host in contracts, and the values that follow from the view.
use Rattle.std.specs.Prelude.{ℕ, nat_lt, List, [], ◌∷◌, ◌++◌, length, Bool, false, ◌&&◌, Option, Some, None, unwrap_or, slice_get, slice_index_or, slice_set}
use Rattle.host_ledger.specs.declared.mark.Mark.{Mark}
use Rattle.host_ledger.specs.Marks.{mark_while}
use Rattle.realm_model.specs.declared.act.Act.{Act}
use Rattle.realm_model.specs.declared.act.Event.{Event}
use Rattle.realm_model.specs.Machine.{Limits}
use Rattle.realm_model.specs.World.{World, opening}
use Rattle.realm_model.specs.History.{replay, open_entries, pages_of}
use Rattle.realm_model.specs.Room.{used_room}
use Rattle.realm_model.specs.Undoing.{by}

-- A host as contracts describe it: its limits, each build's room, the history, and each build's abort flag and mark.
pub record HostView : Type 0 where
  pub limits : Limits
  pub capacity : ℕ
  pub history : List Event
  pub aborting : List Bool
  pub marks : List (Option Mark)

-- The world of a host: the state to which the replay of its history leads.
unfoldable pub world_of : HostView → World
world_of host = unwrap_or (replay host.limits host.history) (opening host.limits)

-- the operations that a build has open
abbrev pub open_of : HostView → ℕ → List Act
open_of host build = open_entries build host.history

-- the granules of a build's pages, the granule of page 0 first
abbrev pub pages_of_build : HostView → ℕ → List ℕ
pages_of_build host build = pages_of build host.history

-- the granule of a build's page, if the build has that page
abbrev pub granule_of_page : HostView → ℕ → ℕ → Option ℕ
granule_of_page host build page = slice_get (pages_of_build host build) page

-- the room that a build has used
abbrev pub used : HostView → ℕ → ℕ
used host build = used_room build host.history (world_of host)

-- ---- aborts

-- the build is in abort
abbrev pub is_aborting : HostView → ℕ → Bool
is_aborting host build = slice_index_or host.aborting build false

-- the host after the abort of a build begins: the build is in abort if it has anything open
abbrev pub begun : HostView → ℕ → HostView
begun host build = record host { aborting = slice_set host.aborting build (nat_lt 0 (length (open_of host build))) }

-- ---- marks

-- the mark that is kept for a build, if there is one
abbrev pub mark_of : HostView → ℕ → Option Mark
mark_of host build = slice_index_or host.marks build None

-- the mark that a build gets now, with the number of operations it has open and the length of the history
abbrev pub mark_now : HostView → ℕ → Mark
mark_now host build = record { build = build; length = length (open_of host build); place = length host.history }

abbrev pub with_mark : HostView → ℕ → Mark → HostView
with_mark host build mark = record host { marks = slice_set host.marks build (Some mark) }

-- ---- events

-- The host after one more event, an operation of the given build. The build leaves abort if it then has nothing open,
-- and its mark is dropped if it then has fewer operations open than at the mark.
abbrev pub with_event : HostView → ℕ → Act → HostView
with_event host build act =
    let history = host.history ++ by build act ∷ [] in
    let opened = length (open_entries build history) in
    record host {
      history = history;
      aborting = slice_set host.aborting build (is_aborting host build && nat_lt 0 opened);
      marks = slice_set host.marks build (mark_while opened (mark_of host build));
    }
