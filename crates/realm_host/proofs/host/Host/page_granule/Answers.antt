use Rattle.std.proofs.Common.{ℕ, List, sym, ap, ◌∙◌}
use Rattle.std.specs.Prelude.{slice_get}
use Rattle.host_ledger.specs.View.{HostView, granule_of_page}
use Rattle.realm_host.proofs.Booted.{no_pages}
use Rattle.realm_host.proofs.host.Host.page_granule.Goals as goal

pub returns-else-has_build-clause-value : goal.returns-else-has_build-clause-value
returns-else-has_build-clause-value g c =
    sym (ap (λ (pages : List ℕ). slice_get pages c.args.page) (no_pages c.args.build c.self.inside.ledger.history c.if-has_build.ensures.none))
    ∙ ap (λ (h : HostView). granule_of_page h c.args.build c.args.page) c.self.view_is
