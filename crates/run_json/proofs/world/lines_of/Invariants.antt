use Rattle.std.proofs.Common.{◌≡◌, take}
use Rattle.run_json.specs.Worlds.{open_lines}
use Rattle.run_json.proofs.world.lines_of.Given as goal

abbrev pub invariant-loop-act : goal.invariant-loop-act
invariant-loop-act l = l.items.items ≡ open_lines l.build (take l.act-index l.acts)
