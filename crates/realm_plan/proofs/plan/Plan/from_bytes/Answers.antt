use Rattle.std.proofs.Common.{rules}
use Rattle.realm_plan.specs.Plan.{plan_of}
use Rattle.realm_plan.proofs.AsWritten.{gives_as_written}
use Rattle.realm_plan.proofs.plan.Plan.from_bytes.Goals as goal

pub returns-clause-value : goal.returns-clause-value
unfolding plan_of
returns-clause-value c = search rules

pub returns-clause-as_written : goal.returns-clause-as_written
returns-clause-as_written c = gives_as_written _ _ (returns-clause-value c)
