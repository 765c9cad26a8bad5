use Rattle.explain.proofs.FirstFailing.{undo_decided, mark_decided, begin_decided, back_decided}
use Rattle.explain.proofs.law.own_steps_decide.Goals as goal

pub returns-clause-undo : goal.returns-clause-undo
returns-clause-undo c = undo_decided

pub returns-clause-mark : goal.returns-clause-mark
returns-clause-mark c = mark_decided

pub returns-clause-begin : goal.returns-clause-begin
returns-clause-begin c = begin_decided

pub returns-clause-back : goal.returns-clause-back
returns-clause-back c = back_decided
