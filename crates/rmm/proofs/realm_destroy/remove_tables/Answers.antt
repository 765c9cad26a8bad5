use Rattle.std.proofs.Common.{ℕ, refl, sym, ap, ◌∙◌, add-one}
use Rattle.std.proofs.lemmas.List.{length-set}
use Rattle.rmm_model.specs.declared.granule.RmmGranuleState.TheVariants.{Delegated}
use Rattle.rmm_model.specs.Granule.{of_no_realm}
use Rattle.rmm_model.specs.Machine.{Machine, granule_count, with_blank}
use Rattle.rmm_model.specs.Command.RealmDestroy.{without_tables}
use Rattle.rmm.proofs.realm_destroy.remove_tables.Goals as goal

pub loop-k-init : goal.loop-k-init
unfolding without_tables
loop-k-init g c = record { removed = refl; count = refl }

pub loop-k-preserved : goal.loop-k-preserved
unfolding without_tables
loop-k-preserved g c =
    let realm = c.args.realm.now in
    let m = c.args.granules.now in
    record {
      removed = c.blank.ensures
          ∙ ap (λ (old : Machine). with_blank old c.start_table-table.result Delegated) c.loop-k.invariant.removed
          ∙ ap (λ (n : ℕ). with_blank (without_tables m realm c.loop-k.k) n Delegated) c.start_table-table.ensures.value
          ∙ ap (without_tables m realm) (sym (add-one c.loop-k.k));
      count = ap granule_count c.blank.ensures ∙ length-set c.loop-k.granules.granules c.start_table-table.result (of_no_realm Delegated) ∙ c.loop-k.invariant.count;
    }
