use Rattle.std.proofs.Common.{◌≡◌, subst, arith}
use Rattle.run_json.specs.Worlds.{IsBuildItem, AreBuildItems}
use Rattle.run_json.proofs.Lists.{each_more}
use Rattle.run_json.proofs.world.builds_of.Goals as goal

pub loop-number-preserved : goal.loop-number-preserved
loop-number-preserved g c =
    each_more (IsBuildItem c.args.host.now) c.loop-number.number c.loop-number.items.items c.push.new.self.items c.in_ok-item.item
    c.loop-number.invariant c.in_ok-push.ensures.items
    (subst (λ build. IsBuildItem c.args.host.now build c.in_ok-item.item) c.at.ensures c.in_ok-item.ensures)

pub returns : goal.returns
returns g c =
    let all : c.loop-number.number ≡ c.args.host.now.limits.builds = omega arith in
    subst (λ count. AreBuildItems c.args.host.now count c.loop-number.items.items) all c.loop-number.invariant
