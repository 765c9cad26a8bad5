use Rattle.std.proofs.Common.{◌≡◌, ℕ, List, length, Vec, Global, ap, ◌∙◌}
use Rattle.plan_states.specs.Tallies.{paths_of}
use Rattle.plan_states.proofs.Tallies.{numbers-same, filter-any}
use Rattle.plan_states.proofs.outcomes.outcomes_of.Goals as goal

pub returns : goal.returns
returns c =
    let graph = c.args.graph.now in
    let all = c.in_ok-all.all.items in
    let are = λ (ns : List (Vec ℕ Global)) (same : ns ≡ all). numbers-same c.deref.result.now graph.layers.items all ns c.deref.ensures.value same c.in_ok-all.ensures in
    record {
      schedule_count = c.in_ok-schedule_count.ensures
          ∙ are c.deref-5.result.now c.deref-5.ensures.value 0 0
          ∙ ap length (filter-any (paths_of graph));
      by_refusal = c.in_ok-by_refusal.ensures (are c.deref-2.result.now c.deref-2.ensures.value);
      ends = c.in_ok-ends.ensures (are c.deref-3.result.now c.deref-3.ensures.value);
      never_refused = c.in_ok-never_refused.ensures;
      maps = c.in_ok-maps.ensures (are c.deref-4.result.now c.deref-4.ensures.value);
    }
