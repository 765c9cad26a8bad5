use Rattle.std.proofs.Common.{◌∙◌, sym, ◌≤◌, subst}
use Rattle.rmi_monitor.proofs.Granules.{as_many_pages}
use Rattle.rmi_monitor.proofs.monitor.Monitor.pages.Goals as goal

pub returns-clause-value : goal.returns-clause-value
returns-clause-value g c = c.pages.ensures ∙ sym (as_many_pages c.args.self.now _ c.self.view_is c.self.invariant)

pub returns-clause-some : goal.returns-clause-some
returns-clause-some g c = subst (λ n. 1 ≤ n) (sym c.pages.ensures) (g.met.S.PageStore.sized c.self.inside.store).some_page

pub returns-clause-few : goal.returns-clause-few
returns-clause-few g c = subst (λ n. n ≤ 4096) (sym c.pages.ensures) (g.met.S.PageStore.sized c.self.inside.store).few_pages
