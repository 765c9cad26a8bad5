use Rattle.std.proofs.Common.{◌≡◌, sym, subst, ◌∙◌}
use Rattle.realm_model.specs.History.{events_of}
use Rattle.plan_states.proofs.Lengths.{one_longer}
use Rattle.plan_states.proofs.Snapshots.{build_more}
use Rattle.plan_states.specs.declared.snapshot.BuildSnapshot.{BuildSnapshot}
use Rattle.plan_states.proofs.snapshot.snapshot_of.Goals as goal

pub loop-build-preserved : goal.loop-build-preserved
loop-build-preserved g c =
    let it : BuildSnapshot = record { point = c.point_of-point.result; events = c.in_ok-events.events } in
    record {
      long = one_longer c.loop-build.builds c.push.new.items it c.loop-build.build c.in_ok-push.ensures c.loop-build.invariant.long;
      builds = build_more (record { host = c.args.host.now; places = c.args.places.now }) c.loop-build.build c.loop-build.builds.items c.push.new.items.items it
          (sym c.loop-build.builds.ok.0 ∙ c.loop-build.invariant.long) c.loop-build.invariant.builds c.in_ok-push.ensures
          (λ i. record {
            point = c.point_of-point.ensures i;
            events = subst (λ h. c.in_ok-events.events.items ≡ events_of c.loop-build.build h) c.history-history.ensures.events c.in_ok-events.ensures i;
          });
    }
