use Rattle.realm_model.specs.Command.Data.{data_destroy}
use Rattle.rmi_monitor.specs.View.{seen_in}
use Rattle.rmi_monitor.specs.Inside.{fields_of}
use Rattle.rmi_monitor.proofs.DataDestroys.{destroy_nowhere, destroy_refused, destroy_done}
use Rattle.rmi_monitor.proofs.Granules.{has_fields}
use Rattle.rmi_monitor.proofs.Located.{its_tables, its_space}
use Rattle.rmi_monitor.proofs.Outcomes.{refusal_input}
use Rattle.rmi_monitor.proofs.RealmCommands.{Done, whole_refused, refused_call}
use Rattle.rmi_monitor.proofs.monitor.Monitor.data_destroy.Given.{Over}
use Rattle.rmi_monitor.proofs.monitor.Monitor.data_destroy.Goals as goal

-- ---- what is refused

pub returns-in_err-tables : goal.returns-in_err-tables
returns-in_err-tables g c =
    refusal_input c.from_residual.result c.from_residual.ensures.1 c.in_err-tables.ensures.err.0
    (destroy_nowhere c.args.self.now c.args.rd c.args.ipa c.in_err-tables.ensures.err.1)

-- ---- the call

pub unmap-requires : goal.unmap-requires
unmap-requires g c =
    let kept = has_fields c.self.view_is c.self.invariant in
    record { backed = c.self.invariant.backed; tables = its_tables kept c.in_ok-tables.ensures.ok; inside = its_space kept c.in_ok-tables.ensures.ok }

pub invariant_of-self : goal.invariant_of-self
invariant_of-self g c = whole_refused c.self.invariant c.in_err-unmap.ensures.unchanged c.in_err-unmap.ensures.keeps.rest.flags

pub returns-in_err-unmap : goal.returns-in_err-unmap
returns-in_err-unmap g c =
    let kept = has_fields c.self.view_is c.self.invariant in
    let said = c.in_err-unmap.ensures in
    refused_call kept said.unchanged said.keeps.rest.flags c.from_residual-in_err-unmap.result c.from_residual-in_err-unmap.ensures.1
    (destroy_refused c.args.self.now c.args.rd c.args.ipa kept c.in_ok-tables.ensures.ok said.answer)

done : (g : Over) (c : goal.In_ok-unmap g) → Done c.args.self.now (data_destroy (seen_in c.args.self.now c.args.rd) c.args.ipa)
    (fields_of c.self.inside.vmids c.self.inside.aux c.self.inside.used c.unmap.new.granules (g.S.PageStore.page_bytes c.unmap.new.store)
    (g.S.PageStore.free_flags c.unmap.new.store) c.self.inside.realms.items c.self.inside.rec_counts.items c.self.inside.recs.items)
done g c =
    let said = c.in_ok-unmap.ensures in
    destroy_done c.args.self.now c.args.rd c.args.ipa (has_fields c.self.view_is c.self.invariant) c.in_ok-tables.ensures.ok c.requires
    (record { answer = said.answer; loses = said.rows; moved = said.moved; cleared = said.cleared; others = said.others; keeps = said.keeps })

pub invariant_of-self-2 : goal.invariant_of-self-2
invariant_of-self-2 g c = (done g c).whole

pub returns : goal.returns
returns g c = (done g c).says
