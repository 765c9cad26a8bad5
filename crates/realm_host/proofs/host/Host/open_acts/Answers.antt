use Rattle.std.proofs.Common.{sym, ap, ◌∙◌}
use Rattle.host_ledger.specs.View.{HostView, open_of}
use Rattle.host_ledger.proofs.Readings.{none_open}
use Rattle.realm_host.proofs.host.Host.open_acts.Goals as goal

pub returns-else-has_build : goal.returns-else-has_build
returns-else-has_build g c =
    sym (none_open c.args.build c.self.inside.ledger.history c.if-has_build.ensures.none) ∙ ap (λ (h : HostView). open_of h c.args.build) c.self.view_is
