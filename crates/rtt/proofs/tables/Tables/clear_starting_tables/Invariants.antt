use Rattle.std.proofs.Common.{◌≡◌}
use Rattle.std.specs.List.{range_with_len}
use Rattle.granule_addr.specs.Page.{zero_page}
use Rattle.realm_model.specs.StepLaw.{set_each}
use Rattle.rtt.proofs.tables.Tables.clear_starting_tables.Given as goal

abbrev pub invariant-loop-number : goal.invariant-loop-number
invariant-loop-number g l =
    let pages = g.S.PageStore.page_bytes in
    record {
      cleared : pages l.store ≡ set_each zero_page (range_with_len l.self.root.first l.number) (pages l.fn.store);
      moved : l.granules ≡ set_each l.to (range_with_len l.self.root.first l.number) l.fn.granules;
      flags : g.S.PageStore.free_flags l.store ≡ g.S.PageStore.free_flags l.fn.store;
    }
