use Rattle.std.proofs.Common.{◌≡◌, ◌<◌, List, length, ap, subst, sym, ◌∙◌, IfSome, arith}
use Rattle.std.proofs.lemmas.List.{length-set}
use Rattle.rmm_model.specs.declared.granule.RmmGranule.{RmmGranule}
use Rattle.rmm_model.specs.Granule.{realm_of}
use Rattle.rmm_model.specs.Machine.{Machine}
use Rattle.rmm_model.specs.Realm.{IsServed}
use Rattle.rmm_granules.proofs.Tables.{HasTables-set}
use Rattle.rmm_granules.proofs.granules.Granules.edit_rec.Goals as goal

pub invariant_of-self : goal.invariant_of-self
invariant_of-self g c =
    let items : List RmmGranule = c.self.inside.granules.items in
    let now : RmmGranule = c.edit_rec.new.self in
    let len = length-set items c.number.result now in
    let count : length c.args.self.now.granules ≡ length items = sym (ap (λ (m : Machine). length m.granules) c.self.view_is) in
    let inside : c.number.result < length items = omega (arith, count, c.requires, c.number.ensures.value) in
    record {
      as_many = len ∙ c.self.invariant.as_many;
      few = let few = c.self.invariant.few in omega arith;
      taken = c.self.invariant.taken;
      tables = HasTables-set items c.number.result now inside c.self.invariant.tables
          (subst (λ (kept : RmmGranule). IfSome (realm_of kept.state) (IsServed (length items))) (sym c.edit_rec.ensures) tt);
      each_vmid = c.self.invariant.each_vmid;
    }
