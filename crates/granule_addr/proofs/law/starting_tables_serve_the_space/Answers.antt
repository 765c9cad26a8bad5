use Rattle.granule_addr.proofs.Spaces.{served_is}
use Rattle.granule_addr.proofs.law.starting_tables_serve_the_space.Goals as goal

pub returns : goal.returns
returns c width is = served_is width is
