use Rattle.rmi_abi.specs.Call.{call_in}
use Rattle.rmm_model.specs.Call.{rmi}
use Rattle.rmm_laws.proofs.NewRipas.{new_empty}
use Rattle.rmm_laws.proofs.NoMemory.{read_without_memory, write_without_memory, fetch_without_memory}
use Rattle.rmm_laws.proofs.RipasTables.{call_ripas, taken_ripas, stored_ripas, filled_ripas, given_ripas, interrupted_ripas}
use Rattle.rmm_laws.proofs.SetRipas.{range_after, range_inited}
use Rattle.rmm_laws.proofs.TriedAgain.{as_left}
use Rattle.rmm_laws.proofs.law.ripas_is_the_guest_s.Goals as goal

pub returns-clause-calls : goal.returns-clause-calls
unfolding rmi
returns-clause-calls c = λ r m proper. call_ripas (call_in r) r m proper

pub returns-clause-taken : goal.returns-clause-taken
returns-clause-taken c = taken_ripas

pub returns-clause-changed : goal.returns-clause-changed
returns-clause-changed c = range_after

pub returns-clause-inited : goal.returns-clause-inited
returns-clause-inited c = range_inited

pub returns-clause-new : goal.returns-clause-new
returns-clause-new c = new_empty

pub returns-clause-reads : goal.returns-clause-reads
returns-clause-reads c = λ m realm rec flags ipa size none. read_without_memory m realm ipa none rec flags size

pub returns-clause-writes : goal.returns-clause-writes
returns-clause-writes c = λ m realm rec flags ipa value size outcome none. write_without_memory m realm ipa none rec flags value size outcome

pub returns-clause-fetches : goal.returns-clause-fetches
returns-clause-fetches c = λ m realm rec flags ipa none. fetch_without_memory m realm ipa none rec flags

pub returns-clause-stores : goal.returns-clause-stores
returns-clause-stores c = stored_ripas

pub returns-clause-fills : goal.returns-clause-fills
returns-clause-fills c = filled_ripas

pub returns-clause-steps : goal.returns-clause-steps
returns-clause-steps c = given_ripas

pub returns-clause-interrupts : goal.returns-clause-interrupts
returns-clause-interrupts c = interrupted_ripas

pub returns-clause-tried_again : goal.returns-clause-tried_again
returns-clause-tried_again c = as_left
