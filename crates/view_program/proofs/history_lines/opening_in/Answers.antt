use Rattle.view_program.proofs.ApplyEnds.{opens_none_long, opens_none_end}
use Rattle.view_program.proofs.history_lines.opening_in.Goals as goal

pub returns-in-TooLong-clause-err : goal.returns-in-TooLong-clause-err
returns-in-TooLong-clause-err g c = opens_none_long _ (rw c.in-TooLong.is at c.in_ok-next_line.ensures.next)

pub returns-in-End-clause-err : goal.returns-in-End-clause-err
returns-in-End-clause-err g c = opens_none_end _ (rw c.in-End.is at c.in_ok-next_line.ensures.next)
