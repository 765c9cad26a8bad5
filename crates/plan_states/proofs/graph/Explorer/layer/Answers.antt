use Rattle.std.proofs.Common.{◌≤◌, subst}
use Rattle.plan_states.proofs.Lengths.{one_longer}
use Rattle.plan_states.proofs.graph.Explorer.layer.Goals as goal

pub loop-place-preserved : goal.loop-place-preserved
loop-place-preserved c = record {
  of_runs = c.in_ok-edges.ensures.ok;
  layer = one_longer c.loop-place.layer c.push.new.items c.in_ok-edges.edges c.loop-place.place c.in_ok-push.ensures c.loop-place.invariant.layer;
  room = subst (λ n. n ≤ c.args.room) c.len.ensures c.if-len-room.false;
}
