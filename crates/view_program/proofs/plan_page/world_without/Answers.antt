use Rattle.std.proofs.lemmas.Result.{IfOk-weaker}
use Rattle.view_program.proofs.plan_page.world_without.Goals as goal

pub fresh_without-requires : goal.fresh_without-requires
fresh_without-requires c = c.requires

pub returns : goal.returns
returns c =
    IfOk-weaker c.world_item.result _ _
    (λ world is. record { fresh = c.in_ok-fresh.fresh; without = c.in_ok-fresh.ensures; is_world = is })
    c.world_item.ensures
