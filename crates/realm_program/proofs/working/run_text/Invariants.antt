use Rattle.build_seats.specs.Names.{names_of}
use Rattle.realm_program.proofs.working.run_text.Given as goal

abbrev pub ghosts-run_with : goal.ghosts-run_with
ghosts-run_with g a = record { opened = a.host; names = names_of a.blanks }
