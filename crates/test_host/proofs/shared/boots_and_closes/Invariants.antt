use Rattle.build_seats.specs.Names.{names_of}
use Rattle.test_host.proofs.shared.boots_and_closes.Given as goal

abbrev pub ghosts-closes : goal.ghosts-closes
ghosts-closes g a = record { opened = a.host; names = names_of a.blanks }
