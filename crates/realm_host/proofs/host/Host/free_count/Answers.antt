use Rattle.std.proofs.Common.{◌∙◌, ap, Bool, List, length}
use Rattle.std.specs.Prelude.{filter}
use Rattle.realm_model.specs.World.{free_set}
use Rattle.host_ledger.specs.View.{HostView, world_of}
use Rattle.realm_host.proofs.Booted.{length-free_set}
use Rattle.realm_host.proofs.host.Host.free_count.Goals as goal

pub returns : goal.returns
returns g c =
    c.free_count.ensures ∙ ap (λ (flags : List Bool). length (filter (λ (flag : Bool). flag) flags)) c.self.invariant.mirror.free
    ∙ length-free_set (world_of c.self.inside.ledger)
    ∙ ap (λ (h : HostView). length (free_set (world_of h))) c.self.view_is
