use Rattle.std.proofs.Common.{List, ℕ, ◌+◌, ◌<◌, length, refl, sym, ap, ◌∙◌, subst, arith, lit<}
use Rattle.std.specs.List.{flat_map, range_with_len}
use Rattle.std.proofs.lemmas.List.FromFn.{length-range_with_len, get_or-range_with_len}
use Rattle.granule_addr.proofs.Runs.{range_with_len_more}
use Rattle.realm_model.specs.History.{pages_held}
use Rattle.realm_program.specs.Fitting.{granule_of_number, ArePushed, HaveNoGranules}
use Rattle.realm_program.proofs.Held.{no_granule}
use Rattle.realm_program.proofs.Pushed.{pushed_count, pushed_more}
use Rattle.realm_program.proofs.pages.push_run.Goals as goal

pub returns-in_err-granule_at-clause-none : goal.returns-in_err-granule_at-clause-none
returns-in_err-granule_at-clause-none c =
    let pages : List ℕ = flat_map pages_held c.args.opened.now in
    let numbers : List ℕ = range_with_len c.args.first c.args.count in
    let long = length-range_with_len c.args.first c.args.count in
    let inside : c.loop-place.place < length numbers = omega arith in
    let none : HaveNoGranules pages numbers =
    λ granules are. no_granule (granule_of_number pages) numbers granules c.loop-place.place 0 inside
    (ap (granule_of_number pages) (get_or-range_with_len c.args.first c.args.count c.loop-place.place 0 (omega arith)) ∙ sym c.granule_at.ensures ∙ c.in_err-granule_at.was) are in
    rw c.from_residual.ensures none

pub push-requires : goal.push-requires
push-requires c =
    let many = pushed_count (flat_map pages_held c.args.opened.now) (range_with_len c.args.first c.loop-place.place) c.args.granules.now.items c.loop-place.granules.items
    c.loop-place.invariant in
    let long = length-range_with_len c.args.first c.loop-place.place in
    let few : length c.loop-place.granules.items < 17 = omega arith in
    (lit< tt, few)

pub loop-place-preserved : goal.loop-place-preserved
loop-place-preserved c =
    let pages : List ℕ = flat_map pages_held c.args.opened.now in
    let number : ℕ = c.args.first + c.loop-place.place in
    subst (λ numbers. ArePushed pages numbers c.args.granules.now.items c.push.new.self.items) (sym (range_with_len_more c.args.first c.loop-place.place number refl))
    (pushed_more pages (range_with_len c.args.first c.loop-place.place) c.args.granules.now.items c.loop-place.granules.items c.push.new.self.items number
    c.in_ok-granule_at.field-0 c.loop-place.invariant (sym c.granule_at.ensures ∙ c.in_ok-granule_at.was) c.push.ensures.items)
