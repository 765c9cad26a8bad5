use Rattle.std.proofs.Common.{sym, ◌∙◌, arith}
use Rattle.rmm_trace.proofs.Trims.{trim_here, trim_more}
use Rattle.rmm_trace.proofs.line.trim_end.Goals as goal

pub returns-then-not-is_blank : goal.returns-then-not-is_blank
returns-then-not-is_blank c =
    trim_here c.args.text.now c.blanks.end c.blanks-test.true c.blanks.invariant.within (sym c.if-not-is_blank.ensures) ∙ sym c.blanks.invariant.same

pub blanks-preserved : goal.blanks-preserved
blanks-preserved c = record {
  within = omega (arith, c.blanks.invariant.within);
  same = c.blanks.invariant.same ∙ trim_more c.args.text.now c.blanks.end c.blanks-test.true c.blanks.invariant.within (sym c.if-not-is_blank.ensures);
}
