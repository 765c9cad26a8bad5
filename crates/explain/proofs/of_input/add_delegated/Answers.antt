use Rattle.explain.specs.OfInput.{page_delegated}
use Rattle.explain.proofs.Lists.{mapped_more}
use Rattle.explain.proofs.of_input.add_delegated.Goals as goal

pub loop-page-preserved : goal.loop-page-preserved
loop-page-preserved g c =
    mapped_more (page_delegated c.args.host.now c.args.build) c.args.pages.now c.loop-page.page-index 0
    c.args.checks.now.items c.loop-page.checks.items c.add.new.checks.items
    c.loop-page-test.true c.loop-page.invariant c.page_delegated.result c.page_delegated.ensures c.in_ok-add.ensures
