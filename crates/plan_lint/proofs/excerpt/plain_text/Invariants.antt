use Rattle.std.proofs.Common.{◌≡◌, map, take}
use Rattle.plan_lint.specs.Shown.{shown_byte}
use Rattle.plan_lint.proofs.excerpt.plain_text.Given as goal

abbrev pub invariant-loop-byte : goal.invariant-loop-byte
invariant-loop-byte l = l.shown.items ≡ map shown_byte (take l.byte-index l.bytes)
