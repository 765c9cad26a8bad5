use Rattle.std.proofs.Common.{ℕ, refl, sym, ap, ◌∙◌, add-one}
use Rattle.std.proofs.lemmas.List.{length-set}
use Rattle.rmm_model.specs.declared.granule.RmmGranuleState.TheVariants.{Rtt}
use Rattle.rmm_model.specs.Granule.{of_realm}
use Rattle.rmm_model.specs.Machine.{Machine, granule_count, with_granule, with_page}
use Rattle.rmm_model.specs.Command.RealmCreate.{start_page, with_tables}
use Rattle.rmm.proofs.realm_create.write_tables.Goals as goal

pub loop-k-init : goal.loop-k-init
unfolding with_tables
loop-k-init g c = record { made = refl; count = refl }

pub loop-k-preserved : goal.loop-k-preserved
unfolding with_tables
loop-k-preserved g c =
    let realm = c.args.realm.now in
    let m = c.args.granules.now in
    let made : (Machine → ℕ → Machine) = λ old table. with_page (with_granule old table (of_realm c.args.rd Rtt)) table (start_page realm c.loop-k.k) in
    record {
      made = c.write_start_page.ensures
          ∙ ap (λ (old : Machine). with_page old c.start_table-table.result (start_page realm c.loop-k.k)) c.set.ensures
          ∙ ap (λ (old : Machine). made old c.start_table-table.result) c.loop-k.invariant.made
          ∙ ap (made (with_tables m c.args.rd realm c.loop-k.k)) c.start_table-table.ensures.value
          ∙ ap (with_tables m c.args.rd realm) (sym (add-one c.loop-k.k));
      count = ap granule_count c.write_start_page.ensures ∙ ap granule_count c.set.ensures ∙ length-set c.loop-k.granules.granules c.start_table-table.result (of_realm c.args.rd Rtt) ∙ c.loop-k.invariant.count;
    }
