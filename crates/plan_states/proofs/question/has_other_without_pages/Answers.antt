use Rattle.std.proofs.Common.{sym, ◌∙◌}
use Rattle.plan_states.specs.Questions.{is_other_without_pages}
use Rattle.plan_states.proofs.Loops.{number_passes, no_number_passes}
use Rattle.plan_states.proofs.question.has_other_without_pages.Goals as goal

pub returns-then-is_other_without_pages : goal.returns-then-is_other_without_pages
returns-then-is_other_without_pages c =
    sym (number_passes (is_other_without_pages c.args.build c.args.held.now) c.args.builds c.loop-other.other c.loop-other-test.true
    (sym c.is_other_without_pages.ensures ∙ c.if-is_other_without_pages.true))

pub returns : goal.returns
returns c =
    sym (no_number_passes (is_other_without_pages c.args.build c.args.held.now) c.args.builds c.loop-other.other c.loop-other-test.false c.loop-other.invariant)
