use Rattle.std.proofs.Common.{inl}
use Rattle.rmi_abi.specs.Call.{call_in}
use Rattle.rmm_model.specs.Call.{rmi}
use Rattle.rmm_laws.proofs.Effects.{activated_then, created_then, entered_then}
use Rattle.rmm_laws.proofs.LastingCalls.{call_realms}
use Rattle.rmm_laws.proofs.StateCalls.{call_states, queued_states, interrupt_states}
use Rattle.rmm_laws.proofs.law.activated_once.Goals as goal

pub returns-clause-calls : goal.returns-clause-calls
unfolding rmi
returns-clause-calls c = λ r m proper. call_states (call_in r) r m proper

pub returns-clause-steps : goal.returns-clause-steps
returns-clause-steps c = λ m rec w rd realm is. (let old = queued_states m rec w rd realm is in inl (old.0, old.1, old.2))

pub returns-clause-interrupts : goal.returns-clause-interrupts
returns-clause-interrupts c = λ m rec rd realm is. (let old = interrupt_states m rec rd realm is in inl (old.0, old.1, old.2))

pub returns-clause-activated : goal.returns-clause-activated
returns-clause-activated c = activated_then

pub returns-clause-entered : goal.returns-clause-entered
returns-clause-entered c = entered_then

pub returns-clause-stay : goal.returns-clause-stay
unfolding rmi
returns-clause-stay c = λ r m proper. call_realms (call_in r) r m proper

pub returns-clause-created : goal.returns-clause-created
returns-clause-created c = created_then
