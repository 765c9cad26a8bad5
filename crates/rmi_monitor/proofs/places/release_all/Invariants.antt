use Rattle.std.proofs.Common.{◌≡◌, All, IsTrue, None, drop}
use Rattle.granule_addr.specs.Page.{zero_page}
use Rattle.realm_model.specs.Command.Check.{are_distinct}
use Rattle.realm_model.specs.StepLaw.{set_each}
use Rattle.realm_model.specs.declared.states.GranuleState.TheVariants.{Delegated}
use Rattle.rmi_monitor.specs.Places.{IsInState, HasPage}
use Rattle.rmi_monitor.proofs.places.release_all.Given as goal

abbrev pub invariant-loop-granule : goal.invariant-loop-granule
invariant-loop-granule g l = record {
  cleared : set_each zero_page (drop l.granule-index l.all) (g.S.PageStore.page_bytes l.store) ≡ set_each zero_page l.all (g.S.PageStore.page_bytes l.fn.store);
  flags : g.S.PageStore.free_flags l.store ≡ g.S.PageStore.free_flags l.fn.store;
  shifted : set_each (record { state = Delegated; realm = None }) (drop l.granule-index l.all) l.granules ≡ set_each (record { state = Delegated; realm = None }) l.all l.fn.granules;
  pages : All (HasPage (g.S.PageStore.page_bytes l.store) (g.S.PageStore.free_flags l.store)) (drop l.granule-index l.all);
  stand : All (IsInState l.granules l.from) (drop l.granule-index l.all);
  distinct : IsTrue (are_distinct (drop l.granule-index l.all));
}
