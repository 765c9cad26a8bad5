use Rattle.std.proofs.Common.{sym, ◌∙◌}
use Rattle.std.proofs.lemmas.List.{take_more}
use Rattle.decimal_text.proofs.UpTo.{up_to-long, up_to-above, up_to-found, small_more}
use Rattle.decimal_text.proofs.range.up_to.Goals as goal

pub returns-then-numbers : goal.returns-then-numbers
returns-then-numbers g c = up_to-long _ _ _ c.if-numbers.true

pub returns-then-number-from : goal.returns-then-number-from
returns-then-number-from g c = up_to-above _ _ _ _ 0 c.loop-number-test.true (rw c.from.ensures at c.if-number-from.true)

pub loop-number-preserved : goal.loop-number-preserved
loop-number-preserved g c = record {
  same = c.push.ensures.items ∙ rw c.loop-number.invariant.same (sym (take_more _ _ 0 c.loop-number-test.true));
  small = small_more _ _ _ 0 c.loop-number-test.true c.loop-number.invariant.small (rw c.from.ensures at c.if-number-from.false);
}

pub returns : goal.returns
returns g c = up_to-found _ _ _ _ _ c.if-numbers.false c.loop-number-test.false c.loop-number.invariant.same c.loop-number.invariant.small
