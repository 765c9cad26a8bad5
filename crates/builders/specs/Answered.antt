-- The condition that a worker's requests, one after another, have answers that a host under a lock can give.
use Rattle.std.specs.Prelude.{◌≡◌, List, [], ◌∷◌, Ok, Err}
use Rattle.host_ledger.specs.View.{HostView}
use Rattle.realm_host.specs.Call.{Ask, Undo}
use Rattle.realm_host.specs.declared.command.HostAnswer.TheVariants.{Replied, Undone}
use Rattle.build_seats.specs.Exchange.{Exchange, Did, Undid, KeptMark, CheckedBack}
use Rattle.build_seats.specs.Seats.{SeatView}
use Rattle.build_seats.specs.Told.{IsCallTold, IsCallRefused, IsMarkTold, IsBackTold}

-- A worker's request, given together with an answer as an `Exchange`, can get this answer from a host under the lock.
-- The builds were started with the host `opened`. An accepted command or undo makes a new seat; any other request
-- leaves the seat as it is.
abbrev pub IsAnswered : HostView → SeatView → Exchange → SeatView → Type 0
IsAnswered opened seat (Did cmd (Ok reply)) new = IsCallTold opened (Ask cmd) (Replied reply) seat new
IsAnswered opened seat (Did cmd (Err refusal)) new = IsCallRefused opened (Ask cmd) refusal seat × (new ≡ seat)
IsAnswered opened seat (Undid (Ok undone)) new = IsCallTold opened Undo (Undone undone) seat new
IsAnswered opened seat (Undid (Err refusal)) new = IsCallRefused opened Undo refusal seat × (new ≡ seat)
IsAnswered opened seat (KeptMark result) new = IsMarkTold opened seat result × (new ≡ seat)
IsAnswered opened seat (CheckedBack mark result) new = IsBackTold opened seat mark result × (new ≡ seat)

-- a worker's requests can get their answers in sequence, each request at the seat that the request before it left
abbrev pub AreAnswered : HostView → SeatView → List Exchange → SeatView → Type 0
AreAnswered opened seat [] new = new ≡ seat
AreAnswered opened seat (exchange ∷ exchanges) new =
    (between : SeatView) × IsAnswered opened seat exchange between × AreAnswered opened between exchanges new
