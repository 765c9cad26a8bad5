use Rattle.std.proofs.Common.{◌++◌, ap, ◌∙◌}
use Rattle.std.proofs.lemmas.List.{take_all}
use Rattle.run_json.specs.Items.{granule_item}
use Rattle.run_json.specs.Turns.{each_granule}
use Rattle.run_json.proofs.Lists.{one_element_more}
use Rattle.run_json.proofs.turn.push_each_granule.Goals as goal

pub loop-granule-preserved : goal.loop-granule-preserved
loop-granule-preserved g c =
    one_element_more (granule_item c.args.host.now) c.args.granules.now c.loop-granule.granule-index c.granule-item.result c.granule_item.result
    c.args.items.now.items c.loop-granule.items.items c.push.new.self.items c.loop-granule-test.true c.granule-item.is
    c.loop-granule.invariant c.in_ok-push.ensures.items c.granule_item.ensures

pub returns : goal.returns
returns g c =
    c.loop-granule.invariant
    ∙ ap (λ granules. c.args.items.now.items ++ each_granule c.args.host.now granules)
    (take_all c.loop-granule.granule-index c.args.granules.now c.loop-granule-test.false)
