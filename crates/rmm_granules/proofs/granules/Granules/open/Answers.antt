use Rattle.std.proofs.Common.{◌≡◌, ℕ, Bool, List, length, replicate, false, sym, ap, ◌∙◌, subst, arith}
use Rattle.std.proofs.lemmas.List.{length-replicate}
use Rattle.rmm_model.specs.declared.granule.RmmGranule.{RmmGranule}
use Rattle.rmm_model.specs.declared.granule.RmmGranuleState.TheVariants.{Undelegated}
use Rattle.rmm_model.specs.Granule.{of_no_realm}
use Rattle.rmm_model.specs.Machine.{HasTables}
use Rattle.rmm_granules.specs.Inside.{machine_of, no_vmids}
use Rattle.rmm_granules.proofs.Tables.{HasTables-replicate}
use Rattle.rmm_granules.proofs.granules.Granules.open.Goals as goal

pub invariant_of-result : goal.invariant_of-result
invariant_of-result g c =
    let granules = c.in-Ok.ensures.granules in
    let pages = c.pages.ensures in
    let sized = g.met.S.PageStore.sized c.args.store in
    let few = sized.few_pages in
    let count : length c.in-Ok.granules.items ≡ c.pages.result = ap (λ (l : List RmmGranule). length l) granules ∙ length-replicate c.pages.result (of_no_realm Undelegated) in
    let bytes = ap (λ (l : List (List ℕ)). length l) c.take_all.ensures.bytes in
    let set = ap (λ (l : List Bool). length l) c.in-Ok.ensures.set in
    record {
      as_many = omega arith;
      few = omega arith;
      taken = c.take_all.ensures.taken;
      tables = subst HasTables (sym granules) (HasTables-replicate c.pages.result);
      each_vmid = set ∙ length-replicate {A = Bool} 65536 false;
    }

pub returns-in-Ok-clause-ok : goal.returns-in-Ok-clause-ok
unfolding no_vmids
returns-in-Ok-clause-ok g c =
    let s = c.args.platform in
    ap (λ (l : List RmmGranule). machine_of s l c.in-Ok.vmids.items (g.S.PageStore.page_bytes c.take_all.new.store)) c.in-Ok.ensures.granules
    ∙ ap (λ (l : List Bool). machine_of s (replicate c.pages.result (of_no_realm Undelegated)) l (g.S.PageStore.page_bytes c.take_all.new.store)) c.in-Ok.ensures.set
    ∙ ap (λ (l : List (List ℕ)). machine_of s (replicate c.pages.result (of_no_realm Undelegated)) no_vmids l) c.take_all.ensures.bytes
    ∙ ap (λ (n : ℕ). machine_of s (replicate n (of_no_realm Undelegated)) no_vmids (g.S.PageStore.page_bytes c.args.store)) c.pages.ensures
