use Rattle.std.proofs.Common.{◌≡◌, [], ◌∷◌, ap, ◌∙◌, ◌++◌, length, subst, arith}
use Rattle.host_ledger.specs.View.{pages_of_build}
use Rattle.run_json.specs.Items.{page_item}
use Rattle.run_json.specs.Worlds.{page_items}
use Rattle.run_json.proofs.Lists.{items_more}
use Rattle.run_json.proofs.world.pages_of.Goals as goal

pub loop-page-preserved : goal.loop-page-preserved
loop-page-preserved g c =
    items_more (λ page. page_item c.args.host.now c.args.build page ∷ []) c.loop-page.page [] c.loop-page.items.items c.push.new.self.items
    c.loop-page.invariant (c.in_ok-push.ensures.items ∙ ap (λ item. c.loop-page.items.items ++ item ∷ []) c.page_item.ensures)

pub returns : goal.returns
returns g c =
    let all : c.loop-page.page ≡ length (pages_of_build c.args.host.now c.args.build) = omega arith in
    subst (λ count. c.loop-page.items.items ≡ page_items c.args.host.now c.args.build count) all c.loop-page.invariant
