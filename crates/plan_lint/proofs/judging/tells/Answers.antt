use Rattle.std.proofs.Common.{sym}
use Rattle.plan_lint.proofs.judging.tells.Goals as goal

pub returns-then-is_error_of : goal.returns-then-is_error_of
returns-then-is_error_of c told = (c.loop-finding.finding-index, c.finding-item.result, c.loop-finding-test.true, sym c.finding-item.is, c.is_error_of.ensures c.if-is_error_of.true)
