use Rattle.realm_host.proofs.Interleaved.{are_indistinguishable}
use Rattle.realm_host.proofs.law.schedule_is_not_observed.Goals as goal

pub returns : goal.returns
returns c = are_indistinguishable
