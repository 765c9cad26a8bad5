use Rattle.std.proofs.Common.{subst}
use Rattle.run_json.proofs.Lists.{each_more}
use Rattle.view_program.specs.PageData.{IsWithoutWorld}
use Rattle.view_program.proofs.plan_page.worlds_without.Goals as goal

pub loop-place-preserved : goal.loop-place-preserved
loop-place-preserved c =
    each_more (IsWithoutWorld c.args.ledger.now) c.loop-place.place c.loop-place.worlds.items c.push.new.self.items c.in_ok-world.world
    c.loop-place.invariant c.in_ok-push.ensures.items
    (subst (λ build. IsWithoutWorld c.args.ledger.now build c.in_ok-world.world) c.at.ensures c.in_ok-world.ensures)
