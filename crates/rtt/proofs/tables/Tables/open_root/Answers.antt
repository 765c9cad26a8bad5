use Rattle.std.proofs.Common.{length, None, sym, ap, subst}
use Rattle.std.specs.Prelude.{List, Bool}
use Rattle.rtt.specs.Granules.{IsIn}
use Rattle.rtt.specs.declared.granule.Granule.{Granule}
use Rattle.realm_model.specs.declared.states.GranuleState.TheVariants.{Delegated}
use Rattle.rtt.specs.Realm.{IsBacked}
use Rattle.rtt.proofs.RootTables.{Opened, opened}
use Rattle.rtt.proofs.StartTables.{start_is, starts_fit}
use Rattle.rtt.proofs.tables.Tables.open_root.Given.{Over}
use Rattle.rtt.proofs.tables.Tables.open_root.Goals as goal

pub clear_starting_tables-requires-clause-inside : goal.clear_starting_tables-requires-clause-inside
clear_starting_tables-requires-clause-inside g c =
    starts_fit c.args.self.now.root (length c.args.granules.now)
    (λ number few. (start_is (λ table. IsIn c.args.granules.now table Delegated None) c.args.self.now.root c.requires.delegated number few).inside)

pub clear_starting_tables-requires-clause-state : goal.clear_starting_tables-requires-clause-state
clear_starting_tables-requires-clause-state g c = λ number few.
    ap (λ (x : Granule). x.state) (start_is (λ table. IsIn c.args.granules.now table Delegated None) c.args.self.now.root c.requires.delegated number few).is

done : (g : Over) (c : goal.After-clear_starting_tables g) → Opened (g.S.PageStore.page_bytes c.args.store.now) (g.S.PageStore.page_bytes c.clear_starting_tables.new.store)
    (g.S.PageStore.free_flags c.args.store.now)
    c.args.granules.now c.clear_starting_tables.new.granules c.args.self.now.rd c.args.self.now.root
done g c =
    opened (g.S.PageStore.page_bytes c.args.store.now) (g.S.PageStore.page_bytes c.clear_starting_tables.new.store) (g.S.PageStore.free_flags c.args.store.now)
    c.args.granules.now c.clear_starting_tables.new.granules c.args.self.now.rd c.args.self.now.root c.requires.backed
    (start_is (λ table. IsIn c.args.granules.now table Delegated None) c.args.self.now.root c.requires.delegated)
    c.clear_starting_tables.ensures.cleared c.clear_starting_tables.ensures.moved

pub returns-clause-rows : goal.returns-clause-rows
returns-clause-rows g c = (done g c).rows_are

pub returns-clause-keeps : goal.returns-clause-keeps
returns-clause-keeps g c = record {
  tables = (done g c).tables;
  rest = record {
    backed = subst (λ (flags : List Bool). IsBacked (g.S.PageStore.page_bytes c.clear_starting_tables.new.store) flags c.clear_starting_tables.new.granules)
        (sym c.clear_starting_tables.ensures.flags) (done g c).backed;
    flags = c.clear_starting_tables.ensures.flags;
    other_realms = (done g c).other_realms;
  };
}
