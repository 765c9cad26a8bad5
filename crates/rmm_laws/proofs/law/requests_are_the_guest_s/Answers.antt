use Rattle.rmi_abi.specs.Call.{call_in}
use Rattle.rmm_model.specs.Call.{rmi}
use Rattle.rmm_laws.proofs.Asking.{nothing_asked, request_kept, asked_by_step}
use Rattle.rmm_laws.proofs.Requests.{call_requests, queued_requests, interrupt_requests, left_requests}
use Rattle.rmm_laws.proofs.Runs.{entered_run}
use Rattle.rmm_laws.proofs.SetRipas.{rest_after}
use Rattle.rmm_laws.proofs.law.requests_are_the_guest_s.Goals as goal

pub returns-clause-calls : goal.returns-clause-calls
unfolding rmi
returns-clause-calls c = λ r m. call_requests (call_in r) r m

pub returns-clause-steps : goal.returns-clause-steps
returns-clause-steps c = λ m rec w. queued_requests m rec w

pub returns-clause-interrupts : goal.returns-clause-interrupts
returns-clause-interrupts c = λ m rec. interrupt_requests m rec

pub returns-clause-entered : goal.returns-clause-entered
returns-clause-entered c = λ m g address flags rec left is. nothing_asked m g address flags rec left is

pub returns-clause-kept : goal.returns-clause-kept
returns-clause-kept c = λ m g address flags rec other is. request_kept m g address flags rec other is

pub returns-clause-asked : goal.returns-clause-asked
returns-clause-asked c = λ m g flags rec is. asked_by_step m g flags rec is

pub returns-clause-rest : goal.returns-clause-rest
returns-clause-rest c = rest_after

pub returns-clause-left : goal.returns-clause-left
returns-clause-left c = λ m g exit last. left_requests m g exit last

pub returns-clause-run : goal.returns-clause-run
returns-clause-run c = entered_run
