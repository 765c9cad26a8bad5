use Rattle.rmm_trace.proofs.Printed.{answered_line}
use Rattle.rmm_trace.proofs.law.answered_questions_are_read_back.Goals as goal

pub returns : goal.returns
returns c = answered_line
