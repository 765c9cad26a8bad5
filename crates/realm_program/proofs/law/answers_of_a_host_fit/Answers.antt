use Rattle.realm_program.proofs.Answered.{reply_fits}
use Rattle.realm_program.proofs.law.answers_of_a_host_fit.Goals as goal

pub returns-clause-reply : goal.returns-clause-reply
returns-clause-reply c = reply_fits
