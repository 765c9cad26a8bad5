use Rattle.std.proofs.Common.{sym, ◌∙◌, arith}
use Rattle.std.proofs.lemmas.List.{take_more}
use Rattle.history_text.specs.Written.{granule}
use Rattle.decimal_text.proofs.UpTo.{up_to-long, up_to-above, up_to-found, small_more}
use Rattle.history_text.proofs.granules.granules_of.Goals as goal

pub returns-then-numbers-gt-MOST_AUXILIARIES : goal.returns-then-numbers-gt-MOST_AUXILIARIES
returns-then-numbers-gt-MOST_AUXILIARIES c = up_to-long 16 granule c.args.numbers.now c.if-numbers-gt-MOST_AUXILIARIES.true

pub returns-then-number-gt-GRANULE : goal.returns-then-number-gt-GRANULE
returns-then-number-gt-GRANULE c = up_to-above 16 granule c.args.numbers.now c.loop-number.number-index 0 c.loop-number-test.true c.if-number-gt-GRANULE.true

pub loop-number-preserved : goal.loop-number-preserved
loop-number-preserved c = record {
  same = c.push.ensures.items ∙ rw (c.granule_of.ensures, c.loop-number.invariant.same) (sym (take_more _ _ 0 c.loop-number-test.true));
  small = small_more granule c.args.numbers.now _ 0 c.loop-number-test.true c.loop-number.invariant.small c.if-number-gt-GRANULE.false;
}

pub returns : goal.returns
returns c =
    up_to-found 16 granule c.args.numbers.now c.loop-number.found c.loop-number.number-index c.if-numbers-gt-MOST_AUXILIARIES.false c.loop-number-test.false
    c.loop-number.invariant.same c.loop-number.invariant.small

pub granule_of-requires : goal.granule_of-requires
granule_of-requires c = omega (arith, c.if-number-gt-GRANULE.false)
