use Rattle.realm_host.proofs.Interleaved.{call_reveals_nothing, begin_reveals_nothing, abort_reveals_nothing}
use Rattle.realm_host.proofs.law.no_call_reveals_the_schedule.Goals as goal

pub returns-clause-call : goal.returns-clause-call
returns-clause-call c = λ host twin build call answer new differ. call_reveals_nothing host twin differ build call answer new

pub returns-clause-begin : goal.returns-clause-begin
returns-clause-begin c = λ host twin build result new differ. begin_reveals_nothing host twin differ build result new

pub returns-clause-abort : goal.returns-clause-abort
returns-clause-abort c = λ host twin build result new differ. abort_reveals_nothing host twin differ build result new
