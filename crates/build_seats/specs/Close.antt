-- The conditions for closing a shared host: each build has one session handle (`Seat`), whose event list is the build's
-- part of the history.
use Rattle.std.specs.Prelude.{◌≡◌, ◌≢◌, ℕ, ◌<◌, ◌==◌, List, length, filter}
use Rattle.std.specs.List.{All}
use Rattle.realm_model.specs.declared.act.Event.{Event}
use Rattle.host_ledger.specs.View.{HostView}
use Rattle.build_seats.specs.Kept.{IsShared}
use Rattle.realm_model.specs.History.{events_of}
use Rattle.build_seats.specs.Seats.{SeatView}
use Rattle.build_seats.specs.Start.{IsOfStart}

-- ---- seats

-- the number of a build's seats in a list of seats
abbrev pub seats_of : ℕ → List SeatView → ℕ
seats_of build seats = length (filter (λ seat. seat.build == build) seats)

-- each build of a host has exactly one seat
unfoldable pub AreSeatsWhole : ℕ → List SeatView → Type 0
AreSeatsWhole builds seats = (build : ℕ) → build < builds → seats_of build seats ≡ 1

-- `build` is the lowest build that does not have exactly one seat
pub record IsMissing (builds build : ℕ) (seats : List SeatView) : Type 0 where
  pub there : build < builds
  pub not_one : seats_of build seats ≢ 1
  pub lowest : (lower : ℕ) → lower < build → seats_of lower seats ≡ 1

-- ---- trails

-- each seat of the build has a trail (its list of events) that is the build's part of the history
abbrev pub Fits : ℕ → List Event → List SeatView → Type 0
Fits build history seats = All (λ seat. seat.build ≡ build → seat.trail ≡ events_of build history) seats

unfoldable pub FitsAll : List Event → List SeatView → Type 0
FitsAll history seats = (build : ℕ) → build < 8 → Fits build history seats

-- `build` is the lowest build with a seat whose event list (trail) differs from the build's part of the history
pub record Differs (build : ℕ) (history : List Event) (seats : List SeatView) : Type 0 where
  pub number : build < 8
  pub differs : ¬ (Fits build history seats)
  pub lowest : (lower : ℕ) → lower < build → Fits lower history seats

-- ---- the host that is given back

-- The host is sound with no build in abort, and has the limits and the history capacity of the host `opened`. Each
-- seat's count is the number of its build's events in the host's history.
pub record IsHostGivenBack (opened host : HostView) (seats : List SeatView) : Type 0 where
  pub shared : IsShared host
  pub of_start : IsOfStart opened host
  pub counted : All (λ seat. length (events_of seat.build host.history) ≡ seat.count) seats

-- Each build has exactly one seat, and each seat's event list (trail) is its build's part of the history.
pub record IsClosed (host : HostView) (seats : List SeatView) : Type 0 where
  pub whole : AreSeatsWhole host.limits.builds seats
  pub trails : All (λ seat. seat.trail ≡ events_of seat.build host.history) seats
