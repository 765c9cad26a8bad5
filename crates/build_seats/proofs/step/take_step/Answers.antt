use Rattle.std.proofs.Common.{arith}
use Rattle.build_seats.proofs.step.take_step.Goals as goal

pub ask_command-requires-clause-room : goal.ask_command-requires-clause-room
ask_command-requires-clause-room g c = omega (arith, c.requires.room)

pub ask_command-requires-clause-turns : goal.ask_command-requires-clause-turns
ask_command-requires-clause-turns g c = omega (arith, c.requires.turns)

pub ask-requires-clause-room : goal.ask-requires-clause-room
ask-requires-clause-room g c = omega (arith, c.requires.room)

pub ask-requires-clause-turns : goal.ask-requires-clause-turns
ask-requires-clause-turns g c = omega (arith, c.requires.turns)

pub ask-requires-in-Mark-clause-room : goal.ask-requires-in-Mark-clause-room
ask-requires-in-Mark-clause-room g c = omega (arith, c.requires.room)

pub ask-requires-in-Mark-clause-turns : goal.ask-requires-in-Mark-clause-turns
ask-requires-in-Mark-clause-turns g c = omega (arith, c.requires.turns)

pub returns-in-Ask-clause-taken : goal.returns-in-Ask-clause-taken
returns-in-Ask-clause-taken g c = rw c.in-Ask.is c.ask_command.ensures.asked

pub returns-in-Undo-clause-taken : goal.returns-in-Undo-clause-taken
returns-in-Undo-clause-taken g c = rw c.in-Undo.is c.ask.ensures.asked

pub returns-in-Abort-clause-taken : goal.returns-in-Abort-clause-taken
returns-in-Abort-clause-taken g c = rw c.in-Abort.is c.abort.ensures.aborted

pub returns-in-Mark-clause-taken : goal.returns-in-Mark-clause-taken
returns-in-Mark-clause-taken g c = rw c.in-Mark.is c.ask-in-Mark.ensures.asked
