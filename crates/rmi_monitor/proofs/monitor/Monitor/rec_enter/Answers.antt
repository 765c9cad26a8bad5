use Rattle.std.proofs.Common.{Some, refl, sym, ap, ◌∙◌, slice_set}
use Rattle.std.specs.Option.{option_copied}
use Rattle.realm_model.specs.declared.states.RecState.TheVariants.{Running}
use Rattle.realm_model.specs.Command.Rec.{rec_enter}
use Rattle.rmi_monitor.proofs.Granules.{has_fields, in_granules}
use Rattle.rmi_monitor.proofs.RecReads.{rec_place, rec_read, some_rd, realm_place, some_realm, kept_there}
use Rattle.rmi_monitor.proofs.RecChanges.{whole_recs, whole_rec_unmoved}
use Rattle.rmi_monitor.proofs.RecRuns.{refused_none, enter_new, enter_running, enter_done}
use Rattle.rmi_monitor.proofs.monitor.Monitor.rec_enter.Goals as goal

pub index_mut-requires : goal.index_mut-requires
index_mut-requires g c = rec_place (has_fields c.self.view_is c.self.invariant) c.requires.inside c.number.ensures.value c.self.inside.recs.ok.0

pub invariant_of-self : goal.invariant_of-self
invariant_of-self g c = whole_rec_unmoved _ c.self.invariant c.number.result c.index_mut.result.now _ c.index_mut.ensures.value refl

pub returns-in_default : goal.returns-in_default
returns-in_default g c = refused_none (has_fields c.self.view_is c.self.invariant) c.requires.inside rec_enter c.number.ensures.value c.index_mut.ensures.value c.in_default.is

pub realm_of-requires : goal.realm_of-requires
realm_of-requires g c = in_granules c.args.self.now _ c.self.view_is c.self.invariant c.args.rec c.requires

pub unwrap-rd-requires : goal.unwrap-rd-requires
unwrap-rd-requires g c =
    let at = rec_read (has_fields c.self.view_is c.self.invariant) c.requires.inside c.number.ensures.value c.index_mut.ensures.value c.in-Some.is in
    some_rd _ c.self.invariant c.args.rec c.in-Some.kept at c.realm_of.ensures

pub index-requires : goal.index-requires
index-requires g c =
    let at = rec_read (has_fields c.self.view_is c.self.invariant) c.requires.inside c.number.ensures.value c.index_mut.ensures.value c.in-Some.is in
    realm_place _ c.self.invariant c.args.rec c.in-Some.kept at c.unwrap-rd.result (sym c.realm_of.ensures ∙ c.unwrap-rd.ensures) c.number-2.result c.number-2.ensures.value c.self.inside.realms.ok.0

pub unwrap-realm-requires : goal.unwrap-realm-requires
unwrap-realm-requires g c =
    let at = rec_read (has_fields c.self.view_is c.self.invariant) c.requires.inside c.number.ensures.value c.index_mut.ensures.value c.in-Some.is in
    let of = sym c.realm_of.ensures ∙ c.unwrap-rd.ensures in
    c.as_ref.ensures.variant ∙ some_realm _ c.self.invariant c.args.rec c.in-Some.kept at c.unwrap-rd.result of c.number-2.result c.number-2.ensures.value c.index.ensures

pub invariant_of-self-then-is_new : goal.invariant_of-self-then-is_new
invariant_of-self-then-is_new g c = whole_rec_unmoved _ c.self.invariant c.number.result c.index_mut.result.now _ c.index_mut.ensures.value c.in-Some.is

pub returns-then-is_new : goal.returns-then-is_new
returns-then-is_new g c =
    let at = rec_read (has_fields c.self.view_is c.self.invariant) c.requires.inside c.number.ensures.value c.index_mut.ensures.value c.in-Some.is in
    let kept = kept_there _ c.self.invariant c.args.rec c.in-Some.kept at c.unwrap-rd.result (sym c.realm_of.ensures ∙ c.unwrap-rd.ensures)
    c.number-2.result c.number-2.ensures.value c.index.ensures (sym c.as_ref.ensures.value ∙ ap option_copied c.unwrap-realm.ensures) in
    enter_new c.args.self.now _ c.self.view_is c.self.invariant c.args.rec _ c.in-Some.kept c.unwrap-rd.result c.unwrap-realm.result.now kept
    c.is_new.result c.is_new.ensures c.if-is_new.true
    (λ i. slice_set c.self.inside.recs.items (c.number.ensures.value i) (Some c.in-Some.kept))

pub invariant_of-self-then-not-is_ready : goal.invariant_of-self-then-not-is_ready
invariant_of-self-then-not-is_ready g c = whole_rec_unmoved _ c.self.invariant c.number.result c.index_mut.result.now _ c.index_mut.ensures.value c.in-Some.is

pub returns-then-not-is_ready : goal.returns-then-not-is_ready
returns-then-not-is_ready g c =
    let at = rec_read (has_fields c.self.view_is c.self.invariant) c.requires.inside c.number.ensures.value c.index_mut.ensures.value c.in-Some.is in
    let kept = kept_there _ c.self.invariant c.args.rec c.in-Some.kept at c.unwrap-rd.result (sym c.realm_of.ensures ∙ c.unwrap-rd.ensures)
    c.number-2.result c.number-2.ensures.value c.index.ensures (sym c.as_ref.ensures.value ∙ ap option_copied c.unwrap-realm.ensures) in
    enter_running c.args.self.now _ c.self.view_is c.self.invariant c.args.rec _ c.in-Some.kept c.unwrap-rd.result c.unwrap-realm.result.now kept
    c.is_new.result c.is_new.ensures c.if-is_new.false (sym c.is_ready.ensures ∙ c.if-not-is_ready.true)
    (λ i. slice_set c.self.inside.recs.items (c.number.ensures.value i) (Some c.in-Some.kept))

pub invariant_of-self-2 : goal.invariant_of-self-2
invariant_of-self-2 g c =
    let at = rec_read (has_fields c.self.view_is c.self.invariant) c.requires.inside c.number.ensures.value c.index_mut.ensures.value c.in-Some.is in
    let kept = kept_there _ c.self.invariant c.args.rec c.in-Some.kept at c.unwrap-rd.result (sym c.realm_of.ensures ∙ c.unwrap-rd.ensures)
    c.number-2.result c.number-2.ensures.value c.index.ensures (sym c.as_ref.ensures.value ∙ ap option_copied c.unwrap-realm.ensures) in
    whole_recs _ c.self.invariant c.args.rec c.in-Some.kept c.unwrap-rd.result c.unwrap-realm.result.now kept (record c.in-Some.kept { state = Running }) refl refl _
    (λ i. slice_set c.self.inside.recs.items (c.number.ensures.value i) (Some (c.enter.ensures i)))

pub returns : goal.returns
returns g c =
    let at = rec_read (has_fields c.self.view_is c.self.invariant) c.requires.inside c.number.ensures.value c.index_mut.ensures.value c.in-Some.is in
    let kept = kept_there _ c.self.invariant c.args.rec c.in-Some.kept at c.unwrap-rd.result (sym c.realm_of.ensures ∙ c.unwrap-rd.ensures)
    c.number-2.result c.number-2.ensures.value c.index.ensures (sym c.as_ref.ensures.value ∙ ap option_copied c.unwrap-realm.ensures) in
    enter_done c.args.self.now _ c.self.view_is c.self.invariant c.args.rec _ c.in-Some.kept c.unwrap-rd.result c.unwrap-realm.result.now kept
    c.is_new.result c.is_new.ensures c.if-is_new.false (sym c.is_ready.ensures ∙ c.if-not-is_ready.false)
    (λ i. slice_set c.self.inside.recs.items (c.number.ensures.value i) (Some (c.enter.ensures i)))
