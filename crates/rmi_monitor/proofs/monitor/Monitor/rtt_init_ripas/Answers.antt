use Rattle.std.proofs.Common.{set, refl, ap, ◌∙◌}
use Rattle.realm_model.specs.Rows.{is_page_run}
use Rattle.realm_model.specs.Command.Table.{rtt_init_ripas}
use Rattle.rmi_monitor.specs.View.{seen_in}
use Rattle.rmi_monitor.specs.Inside.{fields_of}
use Rattle.rmi_monitor.proofs.Granules.{has_fields}
use Rattle.rmi_monitor.proofs.Located.{its_tables, its_space}
use Rattle.rmi_monitor.proofs.Outcomes.{refusal_of}
use Rattle.rmi_monitor.proofs.RealmCommands.{Done, whole_refused, refused_call}
use Rattle.rmi_monitor.proofs.RealmFound.{realm_place}
use Rattle.rmi_monitor.proofs.TableRipas.{run_refused, run_done}
use Rattle.rmi_monitor.proofs.monitor.Monitor.rtt_init_ripas.Given.{Over}
use Rattle.rmi_monitor.proofs.monitor.Monitor.rtt_init_ripas.Goals as goal

-- ---- what is refused

pub returns-in_err-tables : goal.returns-in_err-tables
returns-in_err-tables g c = refusal_of c.from_residual.result c.from_residual.ensures.1 c.in_err-tables.ensures.err

-- ---- the call

pub init_ripas-requires : goal.init_ripas-requires
init_ripas-requires g c =
    let has = has_fields c.self.view_is c.self.invariant in
    let ok = c.in_ok-tables.ensures.ok in
    record {
      backed = c.self.invariant.backed;
      tables = its_tables has ok.0.place;
      inside = its_space has ok.0.place;
      run = ap (λ n. is_page_run n c.args.count) ok.0.place.same ∙ ok.1;
    }

pub invariant_of-self : goal.invariant_of-self
invariant_of-self g c = whole_refused c.self.invariant (c.in_err-init_ripas.ensures.unchanged, refl) c.in_err-init_ripas.ensures.keeps.rest.flags

pub returns-in_err-init_ripas : goal.returns-in_err-init_ripas
returns-in_err-init_ripas g c =
    let has = has_fields c.self.view_is c.self.invariant in
    let said = c.in_err-init_ripas.ensures in
    refused_call has (said.unchanged, refl) said.keeps.rest.flags c.from_residual-in_err-init_ripas.result c.from_residual-in_err-init_ripas.ensures.1
    (run_refused has c.requires c.args.ipa c.args.count c.in_ok-tables.ensures.ok said.answer)

-- ---- the pages are RAM

pub index_mut-requires : goal.index_mut-requires
index_mut-requires g c = realm_place (has_fields c.self.view_is c.self.invariant) c.requires.inside c.number.ensures.value c.self.inside.realms.ok.0

done : (g : Over) (c : goal.After-self-1 g) → Done c.args.self.now (rtt_init_ripas (seen_in c.args.self.now c.args.rd) c.args.ipa c.args.count)
    (fields_of c.self.inside.vmids c.self.inside.aux c.self.inside.used c.self.inside.granules (g.S.PageStore.page_bytes c.init_ripas.new.store)
    (g.S.PageStore.free_flags c.init_ripas.new.store) (set c.self.inside.realms.items c.number.result c.measure.new.place) c.self.inside.rec_counts.items c.self.inside.recs.items)
done g c =
    let said = c.in_ok-init_ripas.ensures in
    run_done (has_fields c.self.view_is c.self.invariant) c.requires c.args.ipa c.args.count c.in_ok-tables.ensures.ok
    (record { answer = said.answer; gains = said.rows; others = said.others; keeps = said.keeps }) c.ripas_event.ensures
    c.number.ensures.value c.index_mut.ensures.value c.measure.ensures

pub invariant_of-self-2 : goal.invariant_of-self-2
invariant_of-self-2 g c = (done g c).whole

pub returns : goal.returns
returns g c = (done g c).says
