use Rattle.rmm_laws.proofs.Mistakes.{entry_left, named_twice, rec_still_counted, owner_removed, wipe_left_out}
use Rattle.rmm_laws.proofs.law.wrong_definitions_are_detected.Goals as goal

pub returns-clause-entry_left : goal.returns-clause-entry_left
returns-clause-entry_left c = entry_left

pub returns-clause-named_twice : goal.returns-clause-named_twice
returns-clause-named_twice c = named_twice

pub returns-clause-rec_still_counted : goal.returns-clause-rec_still_counted
returns-clause-rec_still_counted c = rec_still_counted

pub returns-clause-owner_removed : goal.returns-clause-owner_removed
returns-clause-owner_removed c = owner_removed

pub returns-clause-wipe_left_out : goal.returns-clause-wipe_left_out
returns-clause-wipe_left_out c = wipe_left_out
