use Rattle.std.proofs.Common.{Some, refl, sym, ◌∙◌, slice_set}
use Rattle.realm_model.specs.declared.states.RecState.TheVariants.{Ready}
use Rattle.realm_model.specs.Command.Rec.{rec_exit}
use Rattle.rmi_monitor.proofs.Granules.{has_fields}
use Rattle.rmi_monitor.proofs.RecReads.{rec_place, rec_read}
use Rattle.rmi_monitor.proofs.RecChanges.{whole_recs, whole_rec_unmoved}
use Rattle.rmi_monitor.proofs.RecRuns.{refused_none, exit_ready, exit_done}
use Rattle.rmi_monitor.proofs.RecFound.{kept_at}
use Rattle.rmi_monitor.proofs.monitor.Monitor.rec_exit.Goals as goal

pub index_mut-requires : goal.index_mut-requires
index_mut-requires g c = rec_place (has_fields c.self.view_is c.self.invariant) c.requires.inside c.number.ensures.value c.self.inside.recs.ok.0

pub invariant_of-self : goal.invariant_of-self
invariant_of-self g c = whole_rec_unmoved _ c.self.invariant c.number.result c.index_mut.result.now _ c.index_mut.ensures.value refl

pub returns-in_default : goal.returns-in_default
returns-in_default g c = refused_none (has_fields c.self.view_is c.self.invariant) c.requires.inside rec_exit c.number.ensures.value c.index_mut.ensures.value c.in_default.is

pub invariant_of-self-then-is_ready : goal.invariant_of-self-then-is_ready
invariant_of-self-then-is_ready g c = whole_rec_unmoved _ c.self.invariant c.number.result c.index_mut.result.now _ c.index_mut.ensures.value c.in-Some.is

pub returns-then-is_ready : goal.returns-then-is_ready
returns-then-is_ready g c =
    let at = rec_read (has_fields c.self.view_is c.self.invariant) c.requires.inside c.number.ensures.value c.index_mut.ensures.value c.in-Some.is in
    exit_ready c.args.self.now _ c.self.view_is c.self.invariant c.args.rec _ c.in-Some.kept _ _ (kept_at _ c.self.invariant c.args.rec c.in-Some.kept at)
    (sym c.is_ready.ensures ∙ c.if-is_ready.true)
    (λ i. slice_set c.self.inside.recs.items (c.number.ensures.value i) (Some c.in-Some.kept))

pub invariant_of-self-2 : goal.invariant_of-self-2
invariant_of-self-2 g c =
    let at = rec_read (has_fields c.self.view_is c.self.invariant) c.requires.inside c.number.ensures.value c.index_mut.ensures.value c.in-Some.is in
    whole_recs _ c.self.invariant c.args.rec c.in-Some.kept _ _ (kept_at _ c.self.invariant c.args.rec c.in-Some.kept at) (record c.in-Some.kept { state = Ready }) refl refl _
    (λ i. slice_set c.self.inside.recs.items (c.number.ensures.value i) (Some (c.exit.ensures i)))

pub returns : goal.returns
returns g c =
    let at = rec_read (has_fields c.self.view_is c.self.invariant) c.requires.inside c.number.ensures.value c.index_mut.ensures.value c.in-Some.is in
    exit_done c.args.self.now _ c.self.view_is c.self.invariant c.args.rec _ c.in-Some.kept _ _ (kept_at _ c.self.invariant c.args.rec c.in-Some.kept at)
    (sym c.is_ready.ensures ∙ c.if-is_ready.false)
    (λ i. slice_set c.self.inside.recs.items (c.number.ensures.value i) (Some (c.exit.ensures i)))
