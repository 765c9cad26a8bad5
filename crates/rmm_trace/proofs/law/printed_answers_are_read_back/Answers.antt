use Rattle.rmm_trace.proofs.Printed.{answer_line}
use Rattle.rmm_trace.proofs.law.printed_answers_are_read_back.Goals as goal

pub returns : goal.returns
returns c = answer_line
