use Rattle.std.proofs.Common.{◌≡◌, ◌+◌, ◌<◌, ◌∷◌, [], ◌++◌, List, ℕ, Ok, refl, sym, ◌∙◌, subst, arith}
use Rattle.std.specs.List.{range_with_len}
use Rattle.std.proofs.lemmas.Result.{err_from_is_err_and}
use Rattle.std.proofs.lemmas.List.FromFn.{length-range_with_len, get_or-range_with_len}
use Rattle.host_commands.specs.PageLookup.{AreFoundNext}
use Rattle.granule_addr.proofs.Runs.{range_with_len_more, take_range}
use Rattle.host_commands.proofs.FoundNext.{missing_at, next_after}
use Rattle.host_commands.proofs.pages.find_run.Goals as goal

pub returns-in_err-find : goal.returns-in_err-find
returns-in_err-find g c =
    let told = err_from_is_err_and c.from_residual.result c.from_residual.ensures.1 in
    let view = g.D.BuildsView.seen c.args.view.now in
    let within : c.run.counter < c.args.count = c.run-test.true in
    let long = length-range_with_len c.args.first c.args.count in
    let at = c.run.invariant.page in
    rw (told.1, told.2) (missing_at view c.args.build (range_with_len c.args.first c.args.count) c.run.counter c.run.page c.run.page c.in_err-find.field-0.0
    c.args.found.now.items c.run.found.items c.find.new.found.items
    (omega arith) (at ∙ sym (get_or-range_with_len c.args.first c.args.count c.run.counter c.run.page within))
    (subst (λ (ps : List ℕ). AreFoundNext view c.args.build ps c.args.found.now.items (Ok tt) c.run.found.items)
    (sym (take_range c.args.first c.args.count c.run.counter (omega arith))) c.run.invariant.next)
    c.in_err-find.ensures.next)

pub run-preserved : goal.run-preserved
run-preserved g c =
    let view = g.D.BuildsView.seen c.args.view.now in
    let at = c.run.invariant.page in
    let more : range_with_len c.args.first c.run.counter ++ c.run.page ∷ [] ≡ range_with_len c.args.first (c.run.counter + 1) = sym
    (range_with_len_more c.args.first c.run.counter c.run.page (sym at)) in
    let both : AreFoundNext view c.args.build (range_with_len c.args.first c.run.counter ++ c.run.page ∷ []) c.args.found.now.items (Ok tt) c.find.new.found.items =
    next_after view c.args.build (range_with_len c.args.first c.run.counter) (c.run.page ∷ []) c.args.found.now.items c.run.found.items c.find.new.found.items c.find.new.found.items (Ok tt)
    c.run.invariant.next c.in_ok-find.ensures.next refl
    in
    let one = c.in_ok-find.ensures.next.0 in
    let count = c.run.invariant.count in
    record {
      next = subst (λ (ps : List ℕ). AreFoundNext view c.args.build ps c.args.found.now.items (Ok tt) c.find.new.found.items) more both;
      count = omega arith;
      page = omega arith;
    }
