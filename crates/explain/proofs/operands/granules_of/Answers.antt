use Rattle.std.proofs.Common.{ap, ◌∙◌, ◌++◌, [], get_or}
use Rattle.std.specs.List.{cons_option}
use Rattle.host_ledger.specs.View.{granule_of_page}
use Rattle.explain.proofs.Lists.{filter_map_more, few_more}
use Rattle.explain.proofs.operands.granules_of.Goals as goal

pub loop-page-preserved : goal.loop-page-preserved
loop-page-preserved g c = record {
  items = c.push_found.ensures
      ∙ ap (λ o. c.loop-page.granules.items ++ cons_option o []) c.page_granule.ensures.value
      ∙ ap (λ gs. gs ++ cons_option (granule_of_page c.args.host.now c.args.build (get_or c.args.pages.now c.loop-page.page-index 0)) []) c.loop-page.invariant.items
      ∙ filter_map_more (granule_of_page c.args.host.now c.args.build) c.args.pages.now c.loop-page.page-index 0 c.loop-page-test.true;
  few = few_more c.loop-page.granules.items c.page_granule.result c.push_found.new.granules.items c.loop-page.page-index c.push_found.ensures c.loop-page.invariant.few;
}
