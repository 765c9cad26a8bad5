use Rattle.std.proofs.Common.{List, ℕ, ◌<◌, length, take, get_or, sym, ◌∙◌, subst, arith, lit<}
use Rattle.std.specs.List.{flat_map}
use Rattle.std.proofs.lemmas.List.{take_more, length-take-le}
use Rattle.realm_model.specs.History.{pages_held}
use Rattle.realm_program.specs.Fitting.{granule_of_number, ArePushed, HaveNoGranules}
use Rattle.realm_program.proofs.Held.{no_granule}
use Rattle.realm_program.proofs.Pushed.{pushed_count, pushed_more}
use Rattle.realm_program.proofs.pages.push_granules.Goals as goal

pub returns-in_err-granule_at-clause-none : goal.returns-in_err-granule_at-clause-none
returns-in_err-granule_at-clause-none c =
    let pages : List ℕ = flat_map pages_held c.args.opened.now in
    let none : HaveNoGranules pages c.args.pages.now =
    λ granules are. no_granule (granule_of_number pages) c.args.pages.now granules c.loop-page.page-index 0 c.loop-page-test.true
    (sym c.granule_at.ensures ∙ c.in_err-granule_at.was) are in
    rw c.from_residual.ensures none

pub push-requires : goal.push-requires
push-requires c =
    let many = pushed_count (flat_map pages_held c.args.opened.now) (take c.loop-page.page-index c.args.pages.now) c.args.granules.now.items c.loop-page.granules.items
    c.loop-page.invariant in
    let long = length-take-le c.loop-page.page-index c.args.pages.now (omega arith) in
    let few : length c.loop-page.granules.items < 17 = omega arith in
    (lit< tt, few)

pub loop-page-preserved : goal.loop-page-preserved
loop-page-preserved c =
    let pages : List ℕ = flat_map pages_held c.args.opened.now in
    subst (λ numbers. ArePushed pages numbers c.args.granules.now.items c.push.new.self.items) (sym (take_more c.args.pages.now c.loop-page.page-index 0 c.loop-page-test.true))
    (pushed_more pages (take c.loop-page.page-index c.args.pages.now) c.args.granules.now.items c.loop-page.granules.items c.push.new.self.items
    (get_or c.args.pages.now c.loop-page.page-index 0) c.in_ok-granule_at.field-0 c.loop-page.invariant (sym c.granule_at.ensures ∙ c.in_ok-granule_at.was) c.push.ensures.items)
