use Rattle.std.proofs.Common.{◌∙◌, arith}
use Rattle.rmm_trace.proofs.Commas.{with_comma-pop}
use Rattle.rmm_trace.proofs.answer.put_comma_after_last.Goals as goal

pub returns-clause-items : goal.returns-clause-items
returns-clause-items c = c.push.ensures.items ∙ with_comma-pop _ _ _ c.in-Some.ensures.items

pub push-requires : goal.push-requires
push-requires c = (omega arith, omega (arith, c.requires, c.in-Some.ensures.len))
