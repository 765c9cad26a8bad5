use Rattle.rmi_abi.specs.Call.{call_in}
use Rattle.rmm_model.specs.Call.{rmi}
use Rattle.rmm_laws.proofs.Contents.{call_contents, stored_contents, filled_contents, given_contents, interrupted_contents, read_content}
use Rattle.rmm_laws.proofs.GivenPages.{data_there, unknown_there}
use Rattle.rmm_laws.proofs.GuestWrites.{written_content}
use Rattle.rmm_laws.proofs.HostAccesses.{host_read, upper_written}
use Rattle.rmm_laws.proofs.LocationTables.{call_locations, stored_locations, filled_locations, given_locations, interrupted_locations}
use Rattle.rmm_laws.proofs.Ordering.{store_ordered, fill_ordered}
use Rattle.rmm_laws.proofs.Performing.{performed_for}
use Rattle.rmm_laws.proofs.Plain.{stored, filled}
use Rattle.rmm_laws.proofs.ProperCalls.{after}
use Rattle.rmm_laws.proofs.RunContents.{entered_contents, stepped_contents, left_contents}
use Rattle.rmm_laws.proofs.StepWrites.{step_written}
use Rattle.rmm_laws.proofs.law.memory_is_the_guest_s.Goals as goal

pub returns-clause-calls : goal.returns-clause-calls
unfolding rmi
returns-clause-calls c = λ r m proper. call_locations (call_in r) r m proper

pub returns-clause-stores : goal.returns-clause-stores
returns-clause-stores c = stored_locations

pub returns-clause-fills : goal.returns-clause-fills
returns-clause-fills c = filled_locations

pub returns-clause-steps : goal.returns-clause-steps
returns-clause-steps c = given_locations

pub returns-clause-interrupts : goal.returns-clause-interrupts
returns-clause-interrupts c = interrupted_locations

pub returns-clause-called : goal.returns-clause-called
unfolding rmi
returns-clause-called c = λ r m proper. call_contents (call_in r) r m proper (λ call ok. after call m proper ok)

pub returns-clause-stored : goal.returns-clause-stored
returns-clause-stored c = λ m address word proper. stored_contents m address word proper (record { linked = stored m address word proper.linked; ordered = store_ordered m address word proper.ordered })

pub returns-clause-filled : goal.returns-clause-filled
returns-clause-filled c = λ m address value proper. filled_contents m address value proper (record { linked = filled m address value proper.linked; ordered = fill_ordered m address value proper.ordered })

pub returns-clause-given : goal.returns-clause-given
returns-clause-given c = given_contents

pub returns-clause-ended : goal.returns-clause-ended
returns-clause-ended c = interrupted_contents

pub returns-clause-reads : goal.returns-clause-reads
returns-clause-reads c = λ m rd rec flags ipa size realm page proper is protected content ram. read_content m rd rec flags ipa size realm page proper is protected content ram

pub returns-clause-writes : goal.returns-clause-writes
returns-clause-writes c = λ m rd other rec ipa value x size realm its outcome proper is also protected protected_too apart.
    written_content m proper rd other ipa value x size realm its is also protected protected_too apart rec outcome

pub returns-clause-upper_reads : goal.returns-clause-upper_reads
returns-clause-upper_reads c = λ m realm rec flags ipa value size proper upper is. host_read m realm rec flags ipa value size proper upper is

pub returns-clause-performed : goal.returns-clause-performed
returns-clause-performed c = performed_for

pub returns-clause-upper_writes : goal.returns-clause-upper_writes
returns-clause-upper_writes c = λ m rd other rec ipa value x size realm its outcome proper is also upper lower. upper_written m rd other rec ipa value x size realm its outcome proper is also upper lower

pub returns-clause-entered : goal.returns-clause-entered
returns-clause-entered c = λ m g address flags run. entered_contents m g run address flags

pub returns-clause-stepped : goal.returns-clause-stepped
returns-clause-stepped c = λ m g flags run none. stepped_contents m g run flags none

pub returns-clause-left : goal.returns-clause-left
returns-clause-left c = λ m g exit last run. left_contents m g run exit last

pub returns-clause-created : goal.returns-clause-created
returns-clause-created c = data_there

pub returns-clause-created_unknown : goal.returns-clause-created_unknown
returns-clause-created_unknown c = unknown_there

pub returns-clause-step_writes : goal.returns-clause-step_writes
returns-clause-step_writes c = λ m rd other g flags ipa value x size realm its run owned is also step lower apart. step_written m rd other g flags ipa value x size realm its run owned is also step lower apart
