use Rattle.std.proofs.Common.{◌∙◌, ap, ℕ, List, Option, None}
use Rattle.std.specs.Prelude.{slice_index_or}
use Rattle.host_ledger.specs.View.{HostView, world_of}
use Rattle.host_ledger.proofs.ledger.HostLedger.holder.Goals as goal

pub returns : goal.returns
returns c =
    c.holder.ensures
    ∙ ap (λ (leases : List (Option ℕ)). slice_index_or leases c.args.granule None) c.self.invariant.holders_are
    ∙ ap (λ (h : HostView). slice_index_or (world_of h).leases c.args.granule None) c.self.view_is
