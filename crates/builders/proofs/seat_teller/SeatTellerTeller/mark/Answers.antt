use Rattle.std.proofs.Common.{ap}
use Rattle.build_seats.specs.Seats.{SeatView}
use Rattle.builders.proofs.Telling.{answer_more}
use Rattle.builders.proofs.seat_teller.SeatTellerTeller.mark.Goals as goal

pub returns-clause-told : goal.returns-clause-told
returns-clause-told g c =
    answer_more g.L.Ledgers.opened _ _ _ (ap (λ (s : SeatView). s.build) c.mark.ensures.seat) (c.mark.ensures.told, c.mark.ensures.seat)
