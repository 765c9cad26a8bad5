use Rattle.rmm_laws.proofs.Steps.{next_step, step_or_end}
use Rattle.rmm_laws.proofs.Teardown.{rec_step, page_step, mapping_step, table_step, realm_step, granule_step, undelegated, delegated, nothing_left, nothing_else}
use Rattle.rmm_laws.proofs.law.teardown_steps_succeed.Goals as goal

pub returns-clause-recs : goal.returns-clause-recs
returns-clause-recs c = rec_step

pub returns-clause-pages : goal.returns-clause-pages
returns-clause-pages c = page_step

pub returns-clause-mappings : goal.returns-clause-mappings
returns-clause-mappings c = mapping_step

pub returns-clause-tables : goal.returns-clause-tables
returns-clause-tables c = table_step

pub returns-clause-realms : goal.returns-clause-realms
returns-clause-realms c = realm_step

pub returns-clause-granules : goal.returns-clause-granules
returns-clause-granules c = granule_step

pub returns-clause-undelegated : goal.returns-clause-undelegated
returns-clause-undelegated c = undelegated

pub returns-clause-delegated : goal.returns-clause-delegated
returns-clause-delegated c = delegated

pub returns-clause-nothing_left : goal.returns-clause-nothing_left
returns-clause-nothing_left c = nothing_left

pub returns-clause-nothing_else : goal.returns-clause-nothing_else
returns-clause-nothing_else c = nothing_else

pub returns-clause-next : goal.returns-clause-next
returns-clause-next c = λ m rd spare table i proper named aligned inside free there index live. next_step m proper rd named spare aligned inside free table i there index live

pub returns-clause-end : goal.returns-clause-end
returns-clause-end c = λ m rd spare proper named aligned inside free ready. step_or_end m proper rd named spare aligned inside free ready
