use Rattle.explain.specs.OfBuild.{page_there}
use Rattle.explain.proofs.Lists.{mapped_more}
use Rattle.explain.proofs.of_build.add_pages.Goals as goal

pub loop-page-preserved : goal.loop-page-preserved
loop-page-preserved g c =
    mapped_more (page_there c.args.host.now c.args.build) c.args.pages.now c.loop-page.page-index 0
    c.args.checks.now.items c.loop-page.checks.items c.add.new.checks.items
    c.loop-page-test.true c.loop-page.invariant c.page_there.result c.page_there.ensures c.in_ok-add.ensures
