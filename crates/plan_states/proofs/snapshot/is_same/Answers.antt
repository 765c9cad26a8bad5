use Rattle.plan_states.proofs.RunLogs.{seen_at_place}
use Rattle.plan_states.proofs.Snapshots.{same_more}
use Rattle.plan_states.proofs.snapshot.is_same.Goals as goal

pub loop-build-preserved : goal.loop-build-preserved
loop-build-preserved c =
    let ones = c.args.one.now.builds.items in
    let others = c.args.other.now.builds.items in
    let build = c.loop-build.build in
    same_more build ones others c.in-Some.here.now c.in-Some-get.there.now
    (seen_at_place ones c.deref.result.now build c.in-Some.here.now c.deref.ensures.value c.in-Some.ensures.lookup.3.0 c.in-Some.ensures.lookup.1)
    (seen_at_place others c.deref-in-loop-build.result.now build c.in-Some-get.there.now c.deref-in-loop-build.ensures.value c.in-Some-get.ensures.lookup.3.0 c.in-Some-get.ensures.lookup.1)
    c.if-not-is_same_build.ensures c.loop-build.invariant
