use Rattle.std.proofs.Common.{◌≡◌, ◌+◌, ◌++◌, subst, arith}
use Rattle.run_json.specs.Turns.{numbered_granule, more_granules}
use Rattle.run_json.proofs.Lists.{items_more}
use Rattle.run_json.proofs.turn.push_more_granules.Goals as goal

pub loop-place-preserved : goal.loop-place-preserved
loop-place-preserved g c =
    items_more (λ place. numbered_granule c.args.host.now (c.args.from + place)) c.loop-place.place c.args.items.now.items c.loop-place.items.items
    c.push_numbered.new.items.items c.loop-place.invariant c.in_ok-push_numbered.ensures

pub returns : goal.returns
returns g c =
    let all : c.loop-place.place ≡ c.args.count = omega arith in
    subst (λ count. c.loop-place.items.items ≡ c.args.items.now.items ++ more_granules c.args.host.now c.args.from count) all c.loop-place.invariant
