use Rattle.std.proofs.Common.{◌≡◌, List, ℕ, None, length, replicate, sym, ap, subst, ◌∙◌}
use Rattle.rtt.specs.Granules.{undelegated}
use Rattle.rmi_monitor.specs.Inside.{fields_of, seen_as, IsWhole}
use Rattle.rmi_monitor.proofs.Fresh.{new_fields, whole_new, seen_new}
use Rattle.rmi_monitor.proofs.monitor.Monitor.build.Given.{Over}
use Rattle.rmi_monitor.proofs.monitor.Monitor.build.Goals as goal

-- the fields of the RMM that the code builds are `new_fields`
built : (g : Over) (c : goal.After-new g)
    → fields_of c.args.vmids c.args.aux c.new.result c.in-Ok.field-0.granules (g.S.PageStore.page_bytes c.args.store) (g.S.PageStore.free_flags c.args.store)
    c.in-Ok.field-0.realms.items c.in-Ok.field-0.rec_counts.items c.in-Ok.field-0.recs.items
    ≡ new_fields c.args.vmids c.args.aux c.new.result (length (g.S.PageStore.page_bytes c.args.store))
built g c =
    let pages : List (List ℕ) = g.S.PageStore.page_bytes c.args.store in
    let granules : c.in-Ok.field-0.granules ≡ replicate (length pages) undelegated = c.in-Ok.ensures.granules ∙ ap (λ (n : ℕ). replicate n undelegated) c.pages.ensures in
    let realms = c.in-Ok.ensures.realms ∙ ap (λ (n : ℕ). replicate n None) c.pages.ensures in
    let counts = c.in-Ok.ensures.rec_counts ∙ ap (λ (n : ℕ). replicate n 0) c.pages.ensures in
    let recs = c.in-Ok.ensures.recs ∙ ap (λ (n : ℕ). replicate n None) c.pages.ensures in
    λ i. fields_of c.args.vmids c.args.aux c.new.result (granules i) (c.requires.zero i) (c.requires.free i) (realms i) (counts i) (recs i)

pub invariant_of-result : goal.invariant_of-result
invariant_of-result g c = subst IsWhole (sym (built g c)) (whole_new c.args.vmids c.args.aux (length (g.S.PageStore.page_bytes c.args.store)) c.new.result c.new.ensures)

pub returns-in-Ok-clause-ok : goal.returns-in-Ok-clause-ok
returns-in-Ok-clause-ok g c = ap seen_as (built g c) ∙ seen_new c.args.vmids c.args.aux (length (g.S.PageStore.page_bytes c.args.store)) c.new.result c.new.ensures
