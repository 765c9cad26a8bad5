use Rattle.std.proofs.Common.{◌≤◌, length, arith, refl}
use Rattle.std.proofs.lemmas.Option.{slice_get-map, slice_get_past}
use Rattle.plan_replay.proofs.run.step_after.Goals as goal

pub returns-in-None-clause-value : goal.returns-in-None-clause-value
returns-in-None-clause-value c =
    let past : length c.args.plan.now.builds.items ≤ c.args.build = omega (arith, c.deref.ensures.len, c.in-None.ensures.lookup) in
    rw (slice_get-map, slice_get_past c.args.plan.now.builds.items c.args.build past) refl

pub returns-in-None-clause-few : goal.returns-in-None-clause-few
returns-in-None-clause-few c = tt
