use Rattle.std.proofs.Common.{string_bytes, ap}
use Rattle.plan_replay.specs.Run.{build_text}
use Rattle.plan_replay.proofs.MapLines.{lines_more}
use Rattle.plan_replay.proofs.map.push_map.Goals as goal

pub loop-place-preserved : goal.loop-place-preserved
loop-place-preserved g c =
    lines_more (build_text c.args.host.now) c.loop-place.place (string_bytes c.args.text.now) (string_bytes c.loop-place.text)
    (build_text c.args.host.now c.at.result) (string_bytes c.push_build.new.text)
    c.loop-place.invariant
    c.in_ok-push_build.ensures
    (ap (build_text c.args.host.now) c.at.ensures)
