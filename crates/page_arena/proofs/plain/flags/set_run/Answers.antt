use Rattle.std.proofs.Common.{set, ap, ◌∙◌, refl, arith}
use Rattle.page_arena.proofs.RunLoops.{run_begun, run_on}
use Rattle.page_arena.proofs.plain.flags.set_run.Goals as goal

pub loop-i-init : goal.loop-i-init
loop-i-init c = run_begun c.args.flags.now c.args.first c.args.first c.args.flag refl

pub loop-i-preserved : goal.loop-i-preserved
loop-i-preserved c =
    ap (λ flags. set flags c.loop-i.i c.args.flag) c.loop-i.invariant ∙ run_on c.args.flags.now c.args.first c.loop-i.i c.args.flag (omega arith) (omega arith)
