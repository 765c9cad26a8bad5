use Rattle.std.proofs.Common.{true, false, sym, ap, subst, arith}
use Rattle.std.specs.Prelude.{List, Bool}
use Rattle.rtt.specs.declared.granule.Granule.{Granule}
use Rattle.rtt.specs.Realm.{IsBacked}
use Rattle.rtt.proofs.OtherRealms.{rest_kept}
use Rattle.rtt.proofs.RootTables.{no_table_below, Closed, closed}
use Rattle.rtt.proofs.Walks.{start_in, starts_inside}
use Rattle.rtt.proofs.tables.Tables.close_root.Given.{Over}
use Rattle.rtt.proofs.tables.Tables.close_root.Goals as goal

pub has_no_table_below-requires : goal.has_no_table_below-requires
has_no_table_below-requires g c =
    let fits = starts_inside (g.S.PageStore.page_bytes c.args.store.now) c.args.granules.now c.args.self.now.rd c.args.self.now.root c.requires.tables in
    let as_many = c.requires.backed.as_many in
    omega arith

pub returns-then-not-has_no_table_below-clause-answer : goal.returns-then-not-has_no_table_below-clause-answer
returns-then-not-has_no_table_below-clause-answer g c = no_table_below (g.S.PageStore.page_bytes c.args.store.now) c.args.self.now.root false c.if-not-has_no_table_below.ensures

pub returns-then-not-has_no_table_below-clause-keeps : goal.returns-then-not-has_no_table_below-clause-keeps
returns-then-not-has_no_table_below-clause-keeps g c = rest_kept c.requires.backed

pub clear_starting_tables-requires-clause-inside : goal.clear_starting_tables-requires-clause-inside
clear_starting_tables-requires-clause-inside g c = starts_inside (g.S.PageStore.page_bytes c.args.store.now) c.args.granules.now c.args.self.now.rd c.args.self.now.root c.requires.tables

pub clear_starting_tables-requires-clause-state : goal.clear_starting_tables-requires-clause-state
clear_starting_tables-requires-clause-state g c = λ number few.
    ap (λ (x : Granule). x.state) (start_in (g.S.PageStore.page_bytes c.args.store.now) c.args.granules.now c.args.self.now.rd c.args.self.now.root c.requires.tables number few).is

pub returns-clause-answer : goal.returns-clause-answer
returns-clause-answer g c = no_table_below (g.S.PageStore.page_bytes c.args.store.now) c.args.self.now.root true c.if-not-has_no_table_below.ensures

done : (g : Over) (c : goal.After-clear_starting_tables g) → Closed (g.S.PageStore.page_bytes c.args.store.now) (g.S.PageStore.page_bytes c.clear_starting_tables.new.store)
    (g.S.PageStore.free_flags c.args.store.now)
    c.args.granules.now c.clear_starting_tables.new.granules c.args.self.now.rd
done g c =
    closed (g.S.PageStore.page_bytes c.args.store.now) (g.S.PageStore.page_bytes c.clear_starting_tables.new.store) (g.S.PageStore.free_flags c.args.store.now)
    c.args.granules.now c.clear_starting_tables.new.granules c.args.self.now.rd c.args.self.now.root c.requires.backed c.requires.tables
    c.clear_starting_tables.ensures.cleared c.clear_starting_tables.ensures.moved

pub returns-clause-keeps : goal.returns-clause-keeps
returns-clause-keeps g c = record {
  backed = subst (λ (flags : List Bool). IsBacked (g.S.PageStore.page_bytes c.clear_starting_tables.new.store) flags c.clear_starting_tables.new.granules)
      (sym c.clear_starting_tables.ensures.flags) (done g c).backed;
  flags = c.clear_starting_tables.ensures.flags;
  other_realms = (done g c).other_realms;
}
