use Rattle.rmm_laws.proofs.Answered.{allowed_done, allowed_refused}
use Rattle.rmm_laws.proofs.law.only_refusals_are_allowed.Goals as goal

pub returns-clause-done : goal.returns-clause-done
returns-clause-done c = allowed_done

pub returns-clause-own : goal.returns-clause-own
returns-clause-own c = λ call m refused. (allowed_refused call m refused).0

pub returns-clause-others : goal.returns-clause-others
returns-clause-others c = λ call m word refused allowed. (allowed_refused call m refused).1 word allowed
