use Rattle.std.proofs.Common.{Some, sym, ap, ◌∙◌}
use Rattle.rmm_trace.proofs.Signs.{rest_from, no_sign_more, answer_here, before_sign_here}
use Rattle.rmm_trace.proofs.line.cut_sign.Goals as goal

pub returns-then-is_sign_at-clause-before : goal.returns-then-is_sign_at-clause-before
returns-then-is_sign_at-clause-before c = before_sign_here c.args.text.now c.loop-at.at c.loop-at-test.true (sym c.if-is_sign_at.ensures.sign) c.loop-at.invariant

pub returns-then-is_sign_at-clause-answer : goal.returns-then-is_sign_at-clause-answer
returns-then-is_sign_at-clause-answer c = ap Some (rest_from c.args.text.now _) ∙ answer_here c.args.text.now c.loop-at.at c.loop-at-test.true (sym c.if-is_sign_at.ensures.sign) c.loop-at.invariant

pub loop-at-preserved : goal.loop-at-preserved
loop-at-preserved c = no_sign_more c.args.text.now c.loop-at.at c.loop-at-test.true (sym c.if-is_sign_at.ensures.sign) c.loop-at.invariant
