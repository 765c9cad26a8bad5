use Rattle.rtt.proofs.FrameLaws.{rows-alone, HasTables-alone}
use Rattle.rtt.proofs.law.tables_left_alone_stay.Goals as goal

pub returns : goal.returns
returns c rd root pages granules new_pages new_granules there alone =
    (rows-alone pages granules new_pages new_granules rd root there alone, HasTables-alone pages granules new_pages new_granules rd root there alone)
