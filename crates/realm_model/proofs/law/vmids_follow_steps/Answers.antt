use Rattle.realm_model.proofs.VmidsFollow.{vmids_follow}
use Rattle.realm_model.proofs.law.vmids_follow_steps.Goals as goal

pub returns : goal.returns
returns c = λ limits history world build act next legal at. vmids_follow limits history world build act next legal at
