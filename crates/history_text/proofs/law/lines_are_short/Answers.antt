use Rattle.history_text.proofs.Short.{event_is_short, opening_is_short}
use Rattle.history_text.proofs.law.lines_are_short.Goals as goal

pub returns-clause-events : goal.returns-clause-events
returns-clause-events c = event_is_short

pub returns-clause-openings : goal.returns-clause-openings
returns-clause-openings c = opening_is_short
