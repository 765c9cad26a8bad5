use Rattle.history_calls.proofs.Made.{leads_to_its_machine}
use Rattle.history_calls.proofs.law.calls_lead_to_the_machine.Goals as goal

pub returns : goal.returns
returns c = λ limits history. leads_to_its_machine limits history
