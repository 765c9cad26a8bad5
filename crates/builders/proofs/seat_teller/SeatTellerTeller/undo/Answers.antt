use Rattle.builders.proofs.Telling.{answer_more, undone, undone_build}
use Rattle.builders.proofs.seat_teller.SeatTellerTeller.undo.Goals as goal

pub returns-clause-told : goal.returns-clause-told
returns-clause-told g c =
    answer_more g.L.Ledgers.opened _ _ _ (undone_build g.L.Ledgers.opened _ _ _ c.undo.ensures.told c.undo.ensures.refused) (undone g.L.Ledgers.opened _ _ _ c.undo.ensures.told c.undo.ensures.refused)
