use Rattle.std.proofs.Common.{Bool, List, set, ap, ◌∙◌}
use Rattle.page_arena.specs.Page.{is_free}
use Rattle.realm_model.specs.Command.Data.{data_create}
use Rattle.rmi_monitor.specs.View.{seen_in}
use Rattle.rmi_monitor.specs.Inside.{fields_of}
use Rattle.rmi_monitor.proofs.DataCreates.{copy_fits, copy_refused, copy_done}
use Rattle.rmi_monitor.proofs.DataMaps.{still_inside, written_inside}
use Rattle.rmi_monitor.proofs.Granules.{has_fields, in_granules, not_free, delegated_there, states_apart}
use Rattle.rmi_monitor.proofs.Located.{its_tables, its_space}
use Rattle.rmi_monitor.proofs.Outcomes.{refusal_of}
use Rattle.rmi_monitor.proofs.RealmCommands.{Done, whole_refused, refused_call}
use Rattle.rmi_monitor.proofs.RealmFound.{realm_place}
use Rattle.rmi_monitor.proofs.monitor.Monitor.data_create.Given.{Over}
use Rattle.rmi_monitor.proofs.monitor.Monitor.data_create.Goals as goal

-- ---- what is refused

pub returns-in_err-tables : goal.returns-in_err-tables
returns-in_err-tables g c = refusal_of c.from_residual.result c.from_residual.ensures.1 c.in_err-tables.ensures.err

-- ---- the call

pub map-requires : goal.map-requires
map-requires g c =
    let has = has_fields c.self.view_is c.self.invariant in
    let ok = c.in_ok-tables.ensures.ok in
    let free = delegated_there has c.requires.page_taken (copy_fits has c.args.rd c.args.page c.args.ipa c.args.source c.requires ok).0 in
    record { backed = c.self.invariant.backed; tables = its_tables has ok.0.place; inside = its_space has ok.0.place; delegated = free }

pub invariant_of-self : goal.invariant_of-self
invariant_of-self g c = whole_refused c.self.invariant c.in_err-map.ensures.unchanged c.in_err-map.ensures.keeps.rest.flags

pub returns-in_err-map : goal.returns-in_err-map
returns-in_err-map g c =
    let has = has_fields c.self.view_is c.self.invariant in
    let said = c.in_err-map.ensures in
    refused_call has said.unchanged said.keeps.rest.flags c.from_residual-in_err-map.result c.from_residual-in_err-map.ensures.1
    (copy_refused has c.args.rd c.args.page c.args.ipa c.args.source c.requires c.in_ok-tables.ensures.ok said.answer)

-- ---- the page is written, and the realm is measured

pub copy-requires : goal.copy-requires
copy-requires g c =
    let fit = copy_fits (has_fields c.self.view_is c.self.invariant) c.args.rd c.args.page c.args.ipa c.args.source c.requires c.in_ok-tables.ensures.ok in
    let backed = c.in_ok-map.ensures.keeps.rest.backed in
    record {
      inside =
          still_inside _ _ c.args.page _ _ _ c.in_ok-map.ensures.moved backed c.args.page
          (in_granules c.args.self.now _ c.self.view_is c.self.invariant c.args.page c.requires.page_taken);
      taken =
          ap (λ (flags : List Bool). is_free flags c.args.page) c.in_ok-map.ensures.keeps.rest.flags
          ∙ not_free c.args.self.now _ c.self.view_is c.self.invariant c.args.page c.requires.page_taken;
      different = states_apart _ c.args.page c.args.source fit.0 fit.1;
      source_inside =
          still_inside _ _ c.args.page _ _ _ c.in_ok-map.ensures.moved backed c.args.source
          (in_granules c.args.self.now _ c.self.view_is c.self.invariant c.args.source c.requires.source_taken);
    }

pub bytes-requires : goal.bytes-requires
bytes-requires g c =
    written_inside _ _ c.args.page _ c.copy.ensures.copied c.args.source
    (still_inside _ _ c.args.page _ _ _ c.in_ok-map.ensures.moved c.in_ok-map.ensures.keeps.rest.backed c.args.source
    (in_granules c.args.self.now _ c.self.view_is c.self.invariant c.args.source c.requires.source_taken))

pub index_mut-requires : goal.index_mut-requires
index_mut-requires g c = realm_place (has_fields c.self.view_is c.self.invariant) c.requires.rd_taken.inside c.number.ensures.value c.self.inside.realms.ok.0

done : (g : Over) (c : goal.After-self-1 g)
    → Done c.args.self.now (data_create (seen_in c.args.self.now c.args.rd) (seen_in c.args.self.now c.args.page) c.args.ipa (seen_in c.args.self.now c.args.source))
    (fields_of c.self.inside.vmids c.self.inside.aux c.self.inside.used c.map.new.granules (g.S.PageStore.page_bytes c.copy.new.self)
    (g.S.PageStore.free_flags c.copy.new.self) (set c.self.inside.realms.items c.number.result c.measure.new.place) c.self.inside.rec_counts.items c.self.inside.recs.items)
done g c =
    let said = c.in_ok-map.ensures in
    copy_done (has_fields c.self.view_is c.self.invariant) c.args.rd c.args.page c.args.ipa c.args.source c.requires c.in_ok-tables.ensures.ok
    (record { answer = said.answer; gains = said.rows; moved = said.moved; others = said.others; keeps = said.keeps })
    c.copy.ensures.copied c.copy.ensures.flags c.bytes.ensures.value c.data_event.ensures c.number.ensures.value c.index_mut.ensures.value c.measure.ensures

pub invariant_of-self-2 : goal.invariant_of-self-2
invariant_of-self-2 g c = (done g c).whole

pub returns : goal.returns
returns g c = (done g c).says
