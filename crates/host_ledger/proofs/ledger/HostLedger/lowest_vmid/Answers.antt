use Rattle.std.proofs.Common.{◌∙◌, refl, ap}
use Rattle.host_ledger.specs.Vmids.{lowest_vmid}
use Rattle.host_ledger.proofs.Summaries.{told_is}
use Rattle.host_ledger.proofs.ledger.HostLedger.lowest_vmid.Goals as goal

pub returns : goal.returns
returns c =
    told_is _ c.self.inside.vmids refl c.self.invariant.vmids_are c.lowest_free.result c.lowest_free.ensures.lowest c.lowest_free.ensures.none
    ∙ ap lowest_vmid c.self.view_is
