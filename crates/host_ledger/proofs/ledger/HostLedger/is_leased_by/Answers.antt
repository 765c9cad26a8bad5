use Rattle.std.proofs.Common.{◌∙◌, ap, ℕ, List, Option, Some}
use Rattle.realm_model.specs.World.{is_leased_to}
use Rattle.host_ledger.specs.View.{HostView, world_of}
use Rattle.host_ledger.proofs.ledger.HostLedger.is_leased_by.Goals as goal

pub returns : goal.returns
returns c =
    c.is_held_by.ensures
    ∙ ap (λ (leases : List (Option ℕ)). is_leased_to (Some c.args.build) leases c.args.granule) c.self.invariant.holders_are
    ∙ ap (λ (h : HostView). is_leased_to (Some c.args.build) (world_of h).leases c.args.granule) c.self.view_is
