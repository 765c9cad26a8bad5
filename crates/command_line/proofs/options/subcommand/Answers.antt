use Rattle.command_line.proofs.options.subcommand.Goals as goal

pub returns-clause-app : goal.returns-clause-app
returns-clause-app c = rw c.about.ensures c.new.ensures.app

pub returns-clause-local : goal.returns-clause-local
returns-clause-local c = rw c.about.ensures c.new.ensures.local
