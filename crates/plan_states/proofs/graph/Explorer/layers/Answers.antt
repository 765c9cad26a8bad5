use Rattle.std.proofs.Common.{◌≡◌, ◌+◌, ◌-◌, ◌≤◌, vec_len, sym, subst, ap, ◌∙◌, zero-add}
use Rattle.std.specs.Prelude.{sum_by}
use Rattle.plan_states.proofs.Lengths.{room_left}
use Rattle.plan_states.proofs.graph.Explorer.layers.Goals as goal

pub layers-init : goal.layers-init
layers-init c = record {
  of_runs = c.requires;
  room = ap (λ layers. sum_by vec_len layers + c.args.most) c.new-layers.ensures.items ∙ zero-add c.args.most;
}

pub layers-preserved : goal.layers-preserved
layers-preserved c =
    let both = rw c.in-Some.is at c.in_ok-layer.ensures.layer in
    let long : vec_len c.in-Some.layer ≡ c.len-count.result = both.0 ∙ sym c.len-count.ensures in
    record {
      of_runs = c.in_ok-layer.ensures.ok;
      room = subst (λ n. sum_by vec_len c.push.new.items.items + (c.layers.room - n) ≡ c.args.most) long
          (room_left c.layers.layers.items c.push.new.items.items c.in-Some.layer c.layers.room c.args.most c.in_ok-push.ensures
          (subst (λ n. n ≤ c.layers.room) (sym long) c.if-count-room.false) c.layers.invariant.room);
    }
