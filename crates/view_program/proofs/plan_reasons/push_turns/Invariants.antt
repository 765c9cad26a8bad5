use Rattle.std.proofs.Common.{string_bytes, take}
use Rattle.view_program.specs.Why.{AppendsTurns}
use Rattle.view_program.proofs.plan_reasons.push_turns.Given as goal

abbrev pub invariant-loop-turn : goal.invariant-loop-turn
invariant-loop-turn l = AppendsTurns l.all (take l.turn-index l.turns) (string_bytes l.fn.text) (string_bytes l.text)
