use Rattle.rmi_monitor.proofs.RecCreates.{more_by}
use Rattle.rmi_monitor.proofs.rec.number_rec.Goals as goal

pub take_rec_number-number-requires : goal.take_rec_number-number-requires
take_rec_number-number-requires c = c.requires

pub returns : goal.returns
returns c =
    let counted = c.take_rec_number-number.ensures in
    record { number = counted.number; counted = more_by counted.number counted.raised c.rec_event.ensures c.measure.ensures }
