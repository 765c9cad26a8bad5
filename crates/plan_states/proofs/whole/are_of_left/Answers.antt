use Rattle.std.proofs.Common.{◌≡◌, ℕ, ◌+◌, get_or, take, sym, subst, arith}
use Rattle.std.specs.Prelude.{filter}
use Rattle.realm_plan.specs.PlanView.{plan_view}
use Rattle.plan_states.specs.Whole.{has_step_left}
use Rattle.plan_states.proofs.BuildsLeft.{builds_in, edge_inside, left_more, over_more, all_left}
use Rattle.plan_states.proofs.whole.are_of_left.Goals as goal
use Rattle.plan_states.proofs.whole.are_of_left.Goals.{then-has_step_left+else-not-is_of_build, else-has_step_left}

pub loop-build-preserved : goal.loop-build-preserved
loop-build-preserved c =
    let left = has_step_left (plan_view c.args.plan.now) c.args.done.now in
    let builds = c.args.builds.now in
    let edges = c.args.edges.now in
    let i = c.loop-build.build-index in
    elim c.if-has_step_left.branch [
      | then-has_step_left+else-not-is_of_build w ↦
          let is = sym w.if-not-is_of_build.ensures in
          let less = edge_inside (get_or builds i 0) c.loop-build.at edges is in
          let same = w.at-is in
          record {
            inside = omega arith;
            same = subst (λ (at : ℕ). builds_in (take at edges) ≡ filter left (take (i + 1) builds)) (sym w.at-is)
                (left_more left builds i edges c.loop-build.at c.loop-build-test.true (sym w.if-has_step_left.ensures) is c.loop-build.invariant.same);
          }
      | else-has_step_left w ↦
          let same = w.at-is in
          record {
            inside = omega arith;
            same = subst (λ (at : ℕ). builds_in (take at edges) ≡ filter left (take (i + 1) builds)) (sym w.at-is)
                (over_more left builds i (builds_in (take c.loop-build.at edges)) c.loop-build-test.true (sym w.if-has_step_left.ensures) c.loop-build.invariant.same);
          }
    ]

pub returns : goal.returns
returns c =
    all_left (has_step_left (plan_view c.args.plan.now) c.args.done.now) c.args.builds.now c.loop-build.build-index c.args.edges.now c.loop-build.at
    c.loop-build-test.false c.loop-build.invariant.same
