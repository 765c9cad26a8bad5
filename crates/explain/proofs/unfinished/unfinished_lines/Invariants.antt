use Rattle.std.proofs.Common.{◌≡◌, string_bytes, take}
use Rattle.std.specs.List.{flat_map}
use Rattle.explain.specs.Unfinished.{abort_lines}
use Rattle.explain.proofs.unfinished.unfinished_lines.Given as goal

abbrev pub invariant-loop-abort : goal.invariant-loop-abort
invariant-loop-abort l = string_bytes l.text ≡ flat_map abort_lines (take l.abort-index l.aborts)
