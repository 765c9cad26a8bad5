use Rattle.std.proofs.Common.{arith, rules}
use Rattle.realm_program.proofs.Held.{length_left}
use Rattle.realm_program.proofs.pages.has_pages.Goals as goal

pub loop-act-preserved : goal.loop-act-preserved
loop-act-preserved c =
    let step = length_left c.args.opened.now c.loop-act.act-index c.act-item.result (search (rules, arith)) c.act-item.is in
    omega arith
