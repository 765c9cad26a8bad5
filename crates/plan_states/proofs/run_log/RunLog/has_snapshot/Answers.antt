use Rattle.std.proofs.lemmas.Bool.{OnTrue_at, OnTrue_from}
use Rattle.plan_states.specs.RunLog.{IsSnapshotNumber}
use Rattle.plan_states.proofs.RunLogs.{seen_at_place}
use Rattle.plan_states.proofs.run_log.RunLog.has_snapshot.Goals as goal

pub returns-in-Some : goal.returns-in-Some
returns-in-Some c =
    OnTrue_from c.is_same.result (IsSnapshotNumber c.args.self.now.snapshots.items c.args.number c.args.snapshot.now) (λ is. record {
      it = c.in-Some.it.now;
      is_there = seen_at_place c.args.self.now.snapshots.items c.deref.result.now c.args.number c.in-Some.it.now c.deref.ensures.value c.in-Some.ensures.lookup.3.0 c.in-Some.ensures.lookup.1;
      same = OnTrue_at is c.is_same.ensures;
    })
