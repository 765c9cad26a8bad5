use Rattle.std.proofs.Common.{false}
use Rattle.granule_addr.proofs.Same.{same_each}
use Rattle.granule_addr.proofs.vmid_set.VmidSet.new.Goals as goal

pub returns : goal.returns
returns c vmid = same_each 256 vmid false
