use Rattle.std.proofs.Common.{set, ap, ◌∙◌, refl, arith}
use Rattle.granule_addr.specs.Page.{zero_page}
use Rattle.page_arena.proofs.RunLoops.{run_begun, run_on}
use Rattle.page_arena.proofs.plain.pages.clear_run.Goals as goal

pub loop-i-init : goal.loop-i-init
loop-i-init c = run_begun c.args.pages.now c.args.first c.args.first zero_page refl

pub loop-i-preserved : goal.loop-i-preserved
loop-i-preserved c =
    c.fill_page.ensures
    ∙ ap (λ pages. set pages c.loop-i.i zero_page) c.loop-i.invariant
    ∙ run_on c.args.pages.now c.args.first c.loop-i.i zero_page (omega arith) (omega arith)
