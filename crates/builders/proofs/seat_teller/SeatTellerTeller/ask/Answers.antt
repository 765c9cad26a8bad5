use Rattle.builders.proofs.Telling.{answer_more, asked_again, asked_build}
use Rattle.builders.proofs.seat_teller.SeatTellerTeller.ask.Goals as goal

pub returns-clause-told : goal.returns-clause-told
returns-clause-told g c =
    answer_more g.L.Ledgers.opened _ _ _ (asked_build g.L.Ledgers.opened _ _ _ _ c.call.ensures.told c.call.ensures.refused)
    (asked_again g.L.Ledgers.opened _ _ _ _ _ c.clone.ensures c.call.ensures.told c.call.ensures.refused)
