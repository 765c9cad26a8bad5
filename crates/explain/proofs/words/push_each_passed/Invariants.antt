use Rattle.std.proofs.Common.{length, string_bytes, take}
use Rattle.explain.specs.Words.{AppendsPassed}
use Rattle.explain.proofs.words.push_each_passed.Given as goal

abbrev pub invariant-loop-check : goal.invariant-loop-check
invariant-loop-check l = AppendsPassed (length (take l.check-index l.checks)) (string_bytes l.fn.text) (string_bytes l.text)
