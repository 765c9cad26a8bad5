use Rattle.std.proofs.Common.{◌≡◌, ◌+◌, ◌<◌, length, arith}
use Rattle.build_journal.proofs.Written.{written_on}
use Rattle.build_journal.proofs.stacks.push_run.Goals as goal

pub loop-k-preserved : goal.loop-k-preserved
loop-k-preserved c =
    let kept = c.loop-k.invariant in
    let k = c.loop-k.k in
    let inside : c.len-start.result + k < length c.loop-k.stack.items = omega arith in
    record {
      pushed = written_on c.args.stack.now.items c.loop-k.stack.items c.len-start.result c.number-number.result k c.from_number.result inside c.from_number.ensures kept.pushed;
      long = kept.long;
      memory = kept.memory;
    }
