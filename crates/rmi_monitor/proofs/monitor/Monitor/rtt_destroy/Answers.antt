use Rattle.realm_model.specs.Command.Table.{rtt_destroy}
use Rattle.rmi_monitor.specs.View.{seen_in}
use Rattle.rmi_monitor.specs.Inside.{fields_of}
use Rattle.rmi_monitor.proofs.TableDestroys.{destroy_misplaced, destroy_nowhere, destroy_refused, destroy_done}
use Rattle.rmi_monitor.proofs.Granules.{has_fields}
use Rattle.rmi_monitor.proofs.Located.{its_tables, its_space, its_place}
use Rattle.rmi_monitor.proofs.Outcomes.{refusal, refusal_input}
use Rattle.rmi_monitor.proofs.RealmCommands.{Done, whole_refused, refused_call}
use Rattle.rmi_monitor.proofs.monitor.Monitor.rtt_destroy.Given.{Over}
use Rattle.rmi_monitor.proofs.monitor.Monitor.rtt_destroy.Goals as goal

-- ---- what is refused

pub returns-in_default : goal.returns-in_default
returns-in_default g c = refusal (destroy_misplaced c.args.self.now c.args.rd c.args.ipa c.args.level c.in_default.ensures.none)

pub returns-in_err-tables : goal.returns-in_err-tables
returns-in_err-tables g c =
    refusal_input c.from_residual.result c.from_residual.ensures.1 c.in_err-tables.ensures.err.0
    (destroy_nowhere c.args.self.now c.args.rd c.args.ipa c.args.level c.in_err-tables.ensures.err.1)

-- ---- the call

pub destroy_table-requires : goal.destroy_table-requires
destroy_table-requires g c =
    let kept = has_fields c.self.view_is c.self.invariant in
    let at = c.in_ok-tables.ensures.ok in
    record { backed = c.self.invariant.backed; tables = its_tables kept at; inside = its_space kept at; place = its_place kept at c.in-Some.ensures.some }

pub invariant_of-self : goal.invariant_of-self
invariant_of-self g c = whole_refused c.self.invariant c.in_err-destroy_table.ensures.unchanged c.in_err-destroy_table.ensures.keeps.rest.flags

pub returns-in_err-destroy_table : goal.returns-in_err-destroy_table
returns-in_err-destroy_table g c =
    let kept = has_fields c.self.view_is c.self.invariant in
    let said = c.in_err-destroy_table.ensures in
    refused_call kept said.unchanged said.keeps.rest.flags c.from_residual-in_err-destroy_table.result c.from_residual-in_err-destroy_table.ensures.1
    (destroy_refused c.args.self.now c.args.rd c.args.ipa c.args.level kept c.in_ok-tables.ensures.ok c.in-Some.ensures.some said.answer)

done : (g : Over) (c : goal.In_ok-destroy_table g) → Done c.args.self.now (rtt_destroy (seen_in c.args.self.now c.args.rd) c.args.ipa c.args.level)
    (fields_of c.self.inside.vmids c.self.inside.aux c.self.inside.used c.destroy_table.new.granules (g.S.PageStore.page_bytes c.destroy_table.new.store)
    (g.S.PageStore.free_flags c.destroy_table.new.store) c.self.inside.realms.items c.self.inside.rec_counts.items c.self.inside.recs.items)
done g c =
    let said = c.in_ok-destroy_table.ensures in
    destroy_done c.args.self.now c.args.rd c.args.ipa c.args.level (has_fields c.self.view_is c.self.invariant) c.in_ok-tables.ensures.ok c.in-Some.ensures.some c.requires
    (record { answer = said.answer; loses = said.rows; moved = said.moved; cleared = said.cleared; others = said.others; keeps = said.keeps })

pub invariant_of-self-2 : goal.invariant_of-self-2
invariant_of-self-2 g c = (done g c).whole

pub returns : goal.returns
returns g c = (done g c).says
