use Rattle.build_seats.specs.Names.{names_of}
use Rattle.test_memory.proofs.seats.work.Given as goal

abbrev pub ghosts-share : goal.ghosts-share
ghosts-share g a = record { opened = a.host; names = names_of a.blanks }
