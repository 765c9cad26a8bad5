use Rattle.rmm_trace.proofs.Printed.{question_line}
use Rattle.rmm_trace.proofs.law.printed_questions_are_read_back.Goals as goal

pub returns : goal.returns
returns c = question_line
