use Rattle.build_seats.proofs.Events.{accepted_match_events}
use Rattle.build_seats.proofs.law.accepted_lines_match_events.Goals as goal

pub returns : goal.returns
returns c = λ standing steps exchanges lines ended. accepted_match_events standing steps exchanges lines ended
