use Rattle.std.proofs.Common.{◌≡◌, subst, arith}
use Rattle.run_json.specs.Items.{IsRecItem}
use Rattle.run_json.specs.Worlds.{AreRecItems}
use Rattle.run_json.proofs.Lists.{each_more}
use Rattle.run_json.proofs.world.recs_of.Goals as goal

pub loop-number-preserved : goal.loop-number-preserved
loop-number-preserved g c =
    each_more (IsRecItem c.args.host.now c.args.build) c.loop-number.number c.loop-number.items.items c.push.new.self.items c.in_ok-item.item
    c.loop-number.invariant c.in_ok-push.ensures.items
    (subst (λ number. IsRecItem c.args.host.now c.args.build number c.in_ok-item.item) c.new.ensures c.in_ok-item.ensures)

pub returns : goal.returns
returns g c =
    let all : c.loop-number.number ≡ c.args.next = omega arith in
    subst (λ next. AreRecItems c.args.host.now c.args.build next c.loop-number.items.items) all c.loop-number.invariant
