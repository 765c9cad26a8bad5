use Rattle.std.proofs.Common.{arith}
use Rattle.host_ledger.specs.View.{world_of}
use Rattle.run_json.proofs.RowRuns.{behind_more, same_more}
use Rattle.run_json.proofs.rows.count_same.Goals as goal

pub loop-after-preserved : goal.loop-after-preserved
loop-after-preserved g c =
    let world = world_of c.args.host.now in
    let row = c.args.row.now in
    record {
      some = omega arith;
      next = behind_more world c.args.build row c.loop-after.count c.loop-after.next c.in-Some.after c.loop-after.invariant.next c.in-Some.ensures.next;
      same = same_more world c.args.build row c.loop-after.count c.loop-after.next c.loop-after.invariant.next c.loop-after.invariant.same c.in-Some.ensures.goes_on;
    }
