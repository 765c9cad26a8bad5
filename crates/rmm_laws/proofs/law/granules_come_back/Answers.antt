use Rattle.rmi_abi.specs.Call.{call_in}
use Rattle.rmm_model.specs.Call.{rmi}
use Rattle.rmm_laws.proofs.Effects.{page_named}
use Rattle.rmm_laws.proofs.Freed.{rtt_destroy_back, rtt_fold_back, data_destroy_back, rec_destroy_back}
use Rattle.rmm_laws.proofs.ReleasingCalls.{call_releases}
use Rattle.rmm_laws.proofs.law.granules_come_back.Goals as goal

pub returns-clause-destroyed : goal.returns-clause-destroyed
returns-clause-destroyed c = rtt_destroy_back

pub returns-clause-folded : goal.returns-clause-folded
returns-clause-folded c = rtt_fold_back

pub returns-clause-pages : goal.returns-clause-pages
returns-clause-pages c = data_destroy_back

pub returns-clause-recs : goal.returns-clause-recs
returns-clause-recs c = rec_destroy_back

pub returns-clause-named : goal.returns-clause-named
returns-clause-named c = page_named

pub returns-clause-released : goal.returns-clause-released
unfolding rmi
returns-clause-released c = λ r m granule proper is. call_releases (call_in r) r m proper granule is
