use Rattle.std.proofs.Common.{ap}
use Rattle.build_seats.specs.Seats.{SeatView}
use Rattle.builders.proofs.Telling.{answer_more}
use Rattle.builders.proofs.seat_teller.SeatTellerTeller.check_back.Goals as goal

pub returns-clause-told : goal.returns-clause-told
returns-clause-told g c =
    answer_more g.L.Ledgers.opened _ _ _ (ap (λ (s : SeatView). s.build) c.check_back.ensures.seat) (c.check_back.ensures.told, c.check_back.ensures.seat)
