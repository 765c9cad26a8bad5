-- The data that a shared host's lock protects (the host, and each build's number of events), and the invariant of the
-- data.
use Rattle.std.specs.Prelude.{◌≡◌, ℕ, ◌+◌, ◌<◌, List, length, false, slice_index, slice_set}
use Rattle.realm_model.specs.declared.act.Act.{Act}
use Rattle.realm_model.specs.declared.act.Event.{Event}
use Rattle.realm_model.specs.History.{IsLegal, events_of}
use Rattle.realm_model.specs.Undoing.{by}
use Rattle.host_ledger.specs.Kept.{HasRoom, AreOfEach, PointsHold}
use Rattle.host_ledger.specs.View.{HostView, is_aborting, with_event}
use Rattle.realm_host.specs.Host.{IsInRange}
use Rattle.build_seats.specs.Seats.{SeatView, with_noted}
use Rattle.build_seats.specs.Start.{IsOfStart}

pub record KeptView : Type 0 where
  pub host : HostView
  pub books : List ℕ

-- The host's history is legal, the host's limits and history capacity are in range, and no build has used more than its
-- room. Each build has a flag and a place for a mark, both valid. Any host satisfies this invariant.
pub record IsSound (host : HostView) : Type 0 where
  pub legal : IsLegal host.limits host.history
  pub in_range : IsInRange host.limits host.capacity
  pub room : (build : ℕ) → HasRoom host build
  pub each : AreOfEach host
  pub points : (build : ℕ) → PointsHold host build

-- The host is sound, and no build is in abort. Every host under the lock satisfies this condition.
pub record IsShared (host : HostView) : Type 0 where
  pub sound : IsSound host
  pub no_abort : (build : ℕ) → is_aborting host build ≡ false

-- the list has, for each of the eight builds, the number of its events in the history
pub record IsCounted (history : List Event) (books : List ℕ) : Type 0 where
  pub whole : length books ≡ 8
  pub each : (build : ℕ) → build < 8 → slice_index books build ≡ length (events_of build history)

-- The data under the lock satisfy the invariant: the host is sound with no build in abort, and each build's events are
-- counted. The host has the limits and the history capacity of the host `opened`, so no trail has less room than the
-- history has for its build.
pub record IsKeptBehindLock (opened : HostView) (kept : KeptView) : Type 0 where
  pub shared : IsShared kept.host
  pub counted : IsCounted kept.host.history kept.books
  pub of_start : IsOfStart opened kept.host

-- One event of the seat's build was appended both to the history and to the seat's event list (trail). The build's
-- count under the lock and the seat's count rise by one.
pub record IsNoted (kept : KeptView) (seat : SeatView) (new : KeptView) (new_seat : SeatView) : Type 0 where
  pub act : Act
  pub host_is : new.host ≡ with_event kept.host seat.build act
  pub books_are : new.books ≡ slice_set kept.books seat.build (slice_index kept.books seat.build + 1)
  pub seat_is : new_seat ≡ with_noted seat (by seat.build act)
