use Rattle.view_program.proofs.AllCounted.{all_counted, all_single}
use Rattle.view_program.proofs.schedules.law.all_schedules_are_counted.Goals as goal

pub returns-clause-by_rule : goal.returns-clause-by_rule
returns-clause-by_rule c = all_counted

pub returns-clause-single_turns : goal.returns-clause-single_turns
returns-clause-single_turns c = all_single
