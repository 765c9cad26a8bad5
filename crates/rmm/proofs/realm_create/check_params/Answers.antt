use Rattle.std.proofs.Common.{sym, ◌∙◌, arith}
use Rattle.rmm_granules.proofs.StartCounts.{starts}
use Rattle.rmm.proofs.realm_create.check_params.Goals as goal

pub nonzero_rem-p : goal.nonzero_rem-p
nonzero_rem-p c =
    let p = c.args.p.now in
    let start = starts p.s2sz p.rtt_level_start p.rtt_num_start (sym c.is_start.ensures ∙ c.if-not-is_start.false) in
    let some = start.some in
    omega arith
