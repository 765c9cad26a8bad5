use Rattle.std.proofs.Common.{◌∷◌, [], take, get_or, Ok, refl, arith}
use Rattle.std.proofs.lemmas.List.{take_more}
use Rattle.std.proofs.lemmas.Result.{err_from_is_err_and}
use Rattle.host_commands.proofs.FoundNext.{missing_at, next_after}
use Rattle.host_commands.proofs.pages.find_all.Goals as goal

pub returns-in_err-find : goal.returns-in_err-find
returns-in_err-find g c =
    let told = err_from_is_err_and c.from_residual.result c.from_residual.ensures.1 in
    rw (told.1, told.2) (missing_at (g.D.BuildsView.seen c.args.view.now) c.args.build c.args.pages.now c.pages.page-index
    (get_or c.args.pages.now c.pages.page-index 0) 0 c.in_err-find.field-0.0 c.args.found.now.items c.pages.found.items c.find.new.found.items
    c.pages-test.true refl c.pages.invariant.next c.in_err-find.ensures.next)

pub pages-preserved : goal.pages-preserved
pages-preserved g c =
    let pages = c.args.pages.now in let i = c.pages.page-index in let new = c.find.new.found.items in
    let one = c.in_ok-find.ensures.next.0 in let count = c.pages.invariant.count in
    record {
      next = rw (take_more pages i 0 c.pages-test.true)
          (next_after (g.D.BuildsView.seen c.args.view.now) c.args.build (take i pages) (get_or pages i 0 ∷ []) c.args.found.now.items c.pages.found.items new new
          (Ok tt) c.pages.invariant.next c.in_ok-find.ensures.next refl);
      count = omega arith;
    }
