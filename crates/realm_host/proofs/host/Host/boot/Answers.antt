use Rattle.std.proofs.Common.{length, arith, rules}
use Rattle.realm_host.proofs.Booted.{whole_booted}
use Rattle.realm_host.proofs.host.Host.boot.Goals as goal

pub build-requires : goal.build-requires
build-requires g c = record {
  few_builds = c.args.settings.few_builds;
  few_pages = rw c.pages.ensures (g.met.S.PageStore.sized c.args.store).few_pages;
  few_events = c.args.settings.short_history;
}

pub invariant_of-result : goal.invariant_of-result
invariant_of-result g c =
    whole_booted c.in-Ok.ledger c.in_ok-monitor.monitor c.pages.result (length (g.S.PageStore.page_bytes c.args.store)) c.args.settings.vmids c.args.settings.aux
    c.args.settings.builds c.args.settings.history
    c.pages.ensures c.in-Ok.ensures c.in_ok-monitor.ensures.ok (record {
      settings = record {
        some_vmid = c.args.settings.some_vmid;
        few_auxiliaries = c.args.settings.few_auxiliaries;
        some_history = c.args.settings.some_history;
        short_history = c.args.settings.short_history;
        some_build = c.args.settings.some_build;
        few_builds = c.args.settings.few_builds;
      };
      few_vmids = search (arith, rules);
      some_page = rw c.pages.ensures (g.met.S.PageStore.sized c.args.store).some_page;
      few_pages = rw c.pages.ensures (g.met.S.PageStore.sized c.args.store).few_pages;
    })
