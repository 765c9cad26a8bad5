use Rattle.build_seats.specs.Names.{names_of}
use Rattle.test_host.proofs.refused.host_after.Given as goal

abbrev pub ghosts-work_together : goal.ghosts-work_together
ghosts-work_together g a = record { opened = a.host; names = names_of a.blanks }
