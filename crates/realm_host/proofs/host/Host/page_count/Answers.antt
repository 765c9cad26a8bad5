use Rattle.std.proofs.Common.{◌∙◌, sym, ap, length}
use Rattle.host_ledger.specs.View.{HostView, pages_of_build}
use Rattle.realm_host.proofs.Booted.{no_pages}
use Rattle.realm_host.proofs.host.Host.page_count.Goals as goal

pub returns-else-has_build : goal.returns-else-has_build
returns-else-has_build g c =
    sym (ap length (no_pages c.args.build c.self.inside.ledger.history c.if-has_build.ensures.none))
    ∙ ap (λ (h : HostView). length (pages_of_build h c.args.build)) c.self.view_is
