-- Facts that a worker knows of the shared host from the answer to one call. The answer does not say in which state the
-- host was. But the host has the limits and the history capacity of the start, and as many events of the seat's build
-- as the seat counts.
use Rattle.std.specs.Prelude.{◌≡◌, ℕ, ◌-◌, [], ◌∷◌, ◌++◌, length, Result}
use Rattle.std.specs.Result.{IfOk, OnOk}
use Rattle.realm_model.specs.declared.act.Event.{Event}
use Rattle.host_commands.specs.declared.refusal.Refusal.{Refusal}
use Rattle.host_ledger.specs.declared.mark.Mark.{Mark}
use Rattle.host_ledger.specs.Kept.{IsMarkOf}
use Rattle.host_ledger.specs.View.{HostView, open_of}
use Rattle.realm_host.specs.Answer.{IsAnswer}
use Rattle.realm_host.specs.Call.{Call}
use Rattle.realm_host.specs.Marked.{IsMarked, way_back}
use Rattle.realm_host.specs.declared.command.HostAnswer.{HostAnswer}
use Rattle.realm_host.specs.declared.command.HostAnswer.TheVariants.{Refused}
use Rattle.build_seats.specs.Kept.{IsShared}
use Rattle.realm_model.specs.History.{events_of}
use Rattle.build_seats.specs.Seats.{SeatView, with_noted}
use Rattle.build_seats.specs.Start.{IsOfStart}

-- The host is sound with no build in abort, and has the limits and the history capacity of the host `opened`. The host
-- has as many events of the seat's build as the seat counts.
pub record IsBehind (opened host : HostView) (seat : SeatView) : Type 0 where
  pub shared : IsShared host
  pub of_start : IsOfStart opened host
  pub counted : length (events_of seat.build host.history) ≡ seat.count

-- The host, in some state under the lock, accepted the call with this answer. The host's history and the seat's event
-- list got the same event.
pub record IsCallTold (opened : HostView) (call : Call) (answer : HostAnswer) (seat new_seat : SeatView) : Type 0 where
  pub host : HostView
  pub new : HostView
  pub event : Event
  pub before : IsBehind opened host seat
  pub answered : IsAnswer host seat.build call answer new
  pub ends : new.history ≡ host.history ++ event ∷ []
  pub after : IsBehind opened new new_seat
  pub noted : new_seat ≡ with_noted seat event

-- The host, in some state under the lock, gave this refusal of the call, and did not change.
pub record IsCallRefused (opened : HostView) (call : Call) (refusal : Refusal) (seat : SeatView) : Type 0 where
  pub host : HostView
  pub behind : IsBehind opened host seat
  pub answered : IsAnswer host seat.build call (Refused refusal) host

-- The host, in some state under the lock, answered a request for a mark with this mark or this refusal.
pub record IsMarkTold (opened : HostView) (seat : SeatView) (result : Result Mark Refusal) : Type 0 where
  pub host : HostView
  pub new : HostView
  pub behind : IsBehind opened host seat
  pub answered : IsMarked host seat.build result new

-- The host, in some state under the lock, gave this answer to a request for the number of operations since a mark.
-- These operations are open now, but were not open at the mark.
pub record IsBackTold (opened : HostView) (seat : SeatView) (mark : Mark) (result : Result ℕ Refusal) : Type 0 where
  pub host : HostView
  pub behind : IsBehind opened host seat
  pub answered : result ≡ way_back host seat.build mark
  pub stands : OnOk result (IsMarkOf host seat.build mark)
  pub count_is : IfOk result (λ count. count ≡ length (open_of host seat.build) - mark.length)
