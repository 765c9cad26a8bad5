use Rattle.std.proofs.Common.{sym, ◌∙◌}
use Rattle.rmm_c.proofs.Allowed.{failed_any}
use Rattle.rmm_c.proofs.judging.allows.Goals as goal

pub returns-then-has_failed : goal.returns-then-has_failed
returns-then-has_failed c = c.has_word.ensures ∙ failed_any c.args.rows.now c.args.x0 (sym c.has_failed.ensures ∙ c.if-has_failed.true)
