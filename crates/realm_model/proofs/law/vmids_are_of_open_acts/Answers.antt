use Rattle.realm_model.proofs.OpenVmids.{vmid_is_open}
use Rattle.realm_model.proofs.law.vmids_are_of_open_acts.Goals as goal

pub returns : goal.returns
returns c = λ limits history world vmid legal at. vmid_is_open limits history world vmid legal at
