use Rattle.view_program.proofs.Once.{opens_one, one_machine, one_host, stops_at_no_event, stops_at_refused}
use Rattle.view_program.proofs.law.histories_do_not_stop.Goals as goal

pub returns : goal.returns
returns c = record { machine = one_machine; host = one_host; opens = opens_one; events = stops_at_no_event; accepted = stops_at_refused }
