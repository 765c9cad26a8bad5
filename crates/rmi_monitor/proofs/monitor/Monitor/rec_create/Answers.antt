use Rattle.std.proofs.Common.{◌+◌, set, Some, IsTrue, refl, sym, ◌∙◌, subst, arith}
use Rattle.realm_model.specs.Command.Check.{are_distinct}
use Rattle.rmi_monitor.specs.Inside.{fields_of}
use Rattle.rmi_monitor.proofs.Granules.{has_fields, in_granules}
use Rattle.rmi_monitor.proofs.RecCreates.{inside_by, fit_by, shifted_by, refused_create, refuses_no_realm, refuses_unfit, refuses_active, row_is}
use Rattle.rmi_monitor.proofs.RecCreates.{others_distinct, others_stand, Created, create_done}
use Rattle.rmi_monitor.proofs.RecReads.{rec_place, count_place, count_read, one_more_fits}
use Rattle.rmi_monitor.proofs.RealmFound.{realm_place, realm_read}
use Rattle.rmi_monitor.proofs.RealmCommands.{whole_back}
use Rattle.rmi_monitor.proofs.monitor.Monitor.rec_create.Given.{Over}
use Rattle.rmi_monitor.proofs.monitor.Monitor.rec_create.Goals as goal

pub index_mut-requires : goal.index_mut-requires
index_mut-requires g c = realm_place (has_fields c.self.view_is c.self.invariant) c.requires.rd_taken.inside c.number.ensures.value c.self.inside.realms.ok.0

-- ---- what is refused

pub invariant_of-self : goal.invariant_of-self
invariant_of-self g c = whole_back (has_fields c.self.view_is c.self.invariant) c.number.result c.index_mut.ensures.value refl

pub returns-in_default : goal.returns-in_default
returns-in_default g c =
    let has = has_fields c.self.view_is c.self.invariant in
    let none = realm_read has c.requires.rd_taken.inside c.number.ensures.value c.index_mut.ensures.value c.in_default.is in
    refused_create has c.args.rd c.args.rec c.args.auxiliaries.items c.requires c.number.result c.index_mut.ensures.value refl
    (refuses_no_realm has c.args.rd c.args.rec c.args.auxiliaries.items c.requires none)

pub can_be_rec-requires : goal.can_be_rec-requires
can_be_rec-requires g c = record {
  first = in_granules c.args.self.now _ c.self.view_is c.self.invariant c.args.rec c.requires.rec_taken;
  others = inside_by (has_fields c.self.view_is c.self.invariant) c.args.rd c.args.rec c.args.auxiliaries.items c.requires c.as_slice.ensures.value;
}

pub invariant_of-self-then-not-can_be_rec : goal.invariant_of-self-then-not-can_be_rec
invariant_of-self-then-not-can_be_rec g c = whole_back (has_fields c.self.view_is c.self.invariant) c.number.result c.index_mut.ensures.value c.in-Some.is

pub returns-then-not-can_be_rec : goal.returns-then-not-can_be_rec
returns-then-not-can_be_rec g c =
    let has = has_fields c.self.view_is c.self.invariant in
    let there = realm_read has c.requires.rd_taken.inside c.number.ensures.value c.index_mut.ensures.value c.in-Some.is in
    let unfit = fit_by has c.args.rd c.args.rec c.args.auxiliaries.items c.requires c.as_slice.ensures.value c.can_be_rec.ensures c.if-not-can_be_rec.true in
    refused_create has c.args.rd c.args.rec c.args.auxiliaries.items c.requires c.number.result c.index_mut.ensures.value c.in-Some.is
    (refuses_unfit has c.args.rd c.args.rec c.args.auxiliaries.items c.requires there unfit)

pub invariant_of-self-then-not-is_new : goal.invariant_of-self-then-not-is_new
invariant_of-self-then-not-is_new g c = whole_back (has_fields c.self.view_is c.self.invariant) c.number.result c.index_mut.ensures.value c.in-Some.is

pub returns-then-not-is_new : goal.returns-then-not-is_new
returns-then-not-is_new g c =
    let has = has_fields c.self.view_is c.self.invariant in
    let there = realm_read has c.requires.rd_taken.inside c.number.ensures.value c.index_mut.ensures.value c.in-Some.is in
    let fit = fit_by has c.args.rd c.args.rec c.args.auxiliaries.items c.requires c.as_slice.ensures.value c.can_be_rec.ensures c.if-not-can_be_rec.false in
    refused_create has c.args.rd c.args.rec c.args.auxiliaries.items c.requires c.number.result c.index_mut.ensures.value c.in-Some.is
    (refuses_active has c.args.rd c.args.rec c.args.auxiliaries.items c.requires there fit (sym c.is_new.ensures ∙ c.if-not-is_new.true))

-- ---- the granules are moved

pub shift-requires : goal.shift-requires
shift-requires g c = in_granules c.args.self.now _ c.self.view_is c.self.invariant c.args.rec c.requires.rec_taken

pub shift_all-requires : goal.shift_all-requires
shift_all-requires g c =
    let has = has_fields c.self.view_is c.self.invariant in
    let there = realm_read has c.requires.rd_taken.inside c.number.ensures.value c.index_mut.ensures.value c.in-Some.is in
    let fit = fit_by has c.args.rd c.args.rec c.args.auxiliaries.items c.requires c.as_slice.ensures.value c.can_be_rec.ensures c.if-not-can_be_rec.false in
    let shifted = shifted_by has c.args.rd c.args.rec c.args.auxiliaries.items c.requires there fit c.shift.result _ c.shift.ensures.answer.1 c.shift.ensures.shifted in
    record {
      stand = others_stand has c.args.rd c.args.rec c.args.auxiliaries.items c.requires there fit _ c.as_slice-2.ensures.value shifted;
      distinct =
          subst (λ l. IsTrue (are_distinct l)) (sym c.as_slice-2.ensures.value)
          (others_distinct has c.args.rd c.args.rec c.args.auxiliaries.items c.requires there fit);
    }

-- ---- the REC and its number

pub number_rec-number-requires : goal.number_rec-number-requires
number_rec-number-requires g c =
    let has = has_fields c.self.view_is c.self.invariant in
    c.requires.numbers _ (row_is has c.args.rd c.args.rec c.args.auxiliaries.items c.requires
    (realm_read has c.requires.rd_taken.inside c.number.ensures.value c.index_mut.ensures.value c.in-Some.is))

pub index_mut-requires-2 : goal.index_mut-requires-2
index_mut-requires-2 g c = rec_place (has_fields c.self.view_is c.self.invariant) c.requires.rec_taken.inside c.number-2.ensures.value c.self.inside.recs.ok.0

pub index_mut-requires-3 : goal.index_mut-requires-3
index_mut-requires-3 g c =
    let inside = in_granules c.args.self.now _ c.self.view_is c.self.invariant c.args.rd c.requires.rd_taken in
    count_place _ c.self.invariant c.args.rd inside c.number-3.result c.number-3.ensures.value c.self.inside.rec_counts.ok.0

pub overflow_add-index_mut : goal.overflow_add-index_mut
overflow_add-index_mut g c =
    let inside = in_granules c.args.self.now _ c.self.view_is c.self.invariant c.args.rd c.requires.rd_taken in
    let read = count_read _ c.self.invariant c.args.rd inside c.number-3.result c.number-3.ensures.value c.index_mut-3.result.now c.index_mut-3.ensures.value in
    let fits = one_more_fits c.args.rd c.self.invariant read refl (g.met.S.PageStore.sized c.self.inside.store).few_pages in
    omega (arith, fits)

done : (g : Over) (c : goal.After-self-4-1 g) → Created c.args.self.now c.args.rd c.args.rec c.args.auxiliaries.items c.number_rec-number.result
    (fields_of c.self.inside.vmids c.self.inside.aux c.self.inside.used c.shift_all.new.granules (g.S.PageStore.page_bytes c.self.inside.store)
    (g.S.PageStore.free_flags c.self.inside.store) (set c.self.inside.realms.items c.number.result (Some c.number_rec-number.new.realm))
    (set c.self.inside.rec_counts.items c.number-3.result (c.index_mut-3.result.now + 1)) (set c.self.inside.recs.items c.number-2.result (Some c.new.result)))
done g c =
    let has = has_fields c.self.view_is c.self.invariant in
    let there = realm_read has c.requires.rd_taken.inside c.number.ensures.value c.index_mut.ensures.value c.in-Some.is in
    let fit = fit_by has c.args.rd c.args.rec c.args.auxiliaries.items c.requires c.as_slice.ensures.value c.can_be_rec.ensures c.if-not-can_be_rec.false in
    let inside = in_granules c.args.self.now _ c.self.view_is c.self.invariant c.args.rd c.requires.rd_taken in
    create_done has c.args.rd c.args.rec c.args.auxiliaries.items c.requires there fit (sym c.is_new.ensures ∙ c.if-not-is_new.false)
    (shifted_by has c.args.rd c.args.rec c.args.auxiliaries.items c.requires there fit c.shift.result _ c.shift.ensures.answer.1 c.shift.ensures.shifted)
    c.shift_all.ensures c.as_slice-2.ensures.value c.number.ensures.value c.number-2.ensures.value c.number-3.ensures.value
    (count_read _ c.self.invariant c.args.rd inside c.number-3.result c.number-3.ensures.value c.index_mut-3.result.now c.index_mut-3.ensures.value)
    c.number_rec-number.ensures.counted c.number_rec-number.ensures.number c.new.ensures

pub invariant_of-self-2 : goal.invariant_of-self-2
invariant_of-self-2 g c = (done g c).whole

pub returns : goal.returns
returns g c = (done g c).says
