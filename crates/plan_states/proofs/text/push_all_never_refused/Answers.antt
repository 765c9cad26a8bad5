use Rattle.std.proofs.Common.{string_bytes, refl}
use Rattle.plan_replay.proofs.MapLines.{lines_more}
use Rattle.plan_states.specs.Lines.{never_refused_lines}
use Rattle.plan_states.proofs.text.push_all_never_refused.Goals as goal

pub loop-build-preserved : goal.loop-build-preserved
loop-build-preserved c =
    lines_more (never_refused_lines c.args.schedule_count.now c.args.never_refused.now) c.loop-build.build (string_bytes c.args.text.now) (string_bytes c.loop-build.text)
    (never_refused_lines c.args.schedule_count.now c.args.never_refused.now c.loop-build.build) (string_bytes c.push_never_refused_tallies.new.text)
    c.loop-build.invariant c.in_ok-push_never_refused_tallies.ensures refl
