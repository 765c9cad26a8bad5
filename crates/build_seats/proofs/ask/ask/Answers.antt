use Rattle.build_seats.specs.Asked.{cut_short}
use Rattle.build_seats.proofs.Stretches.{answered, IsStretch-one, IsStretch-cut}
use Rattle.build_seats.proofs.ask.ask.Goals as goal

pub returns-in-Ok-clause-asked : goal.returns-in-Ok-clause-asked
returns-in-Ok-clause-asked g c =
    IsStretch-one c.turn.ensures c.in-Ok.ensures.ok c.put.ensures.exchange (answered c.put.result c.unwrap_or_else-answer.result c.unwrap_or_else-answer.ensures)
    c.tell.ensures.ending c.tell.ensures.added

pub returns-in-Err-clause-asked : goal.returns-in-Err-clause-asked
returns-in-Err-clause-asked g c = IsStretch-cut c.turn.ensures c.in-Err.ensures.stuck cut_short
