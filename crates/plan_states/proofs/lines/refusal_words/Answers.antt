use Rattle.std.proofs.Common.{sym, ap}
use Rattle.plan_states.specs.Lines.{refusal_words}
use Rattle.plan_states.proofs.lines.refusal_words.Goals as goal

pub returns-then-is_refused : goal.returns-then-is_refused
returns-then-is_refused c = ap refusal_words (sym c.if-is_refused.true)

pub returns-else-is_refused : goal.returns-else-is_refused
returns-else-is_refused c = ap refusal_words (sym c.if-is_refused.false)
