use Rattle.std.proofs.Common.{sym, ◌∙◌}
use Rattle.decimal_text.proofs.Grammars.{meaning_from_parts, no_meaning_from_rest}
use Rattle.realm_plan.proofs.StepTexts.{steps, found_is_step, none_is_step}
use Rattle.realm_plan.proofs.step.step_from_text.Goals as goal

pub returns-in_err-numbers-clause-exact : goal.returns-in_err-numbers-clause-exact
returns-in_err-numbers-clause-exact c =
    rw c.from_residual.ensures (no_meaning_from_rest steps c.args.text.now (rw c.cut_at_space.ensures.from at c.in_err-numbers.ensures.none))

pub returns-in_err-numbers-clause-none : goal.returns-in_err-numbers-clause-none
returns-in_err-numbers-clause-none c = none_is_step c.args.text.now c.from_residual.result (returns-in_err-numbers-clause-exact c)

pub returns-clause-exact : goal.returns-clause-exact
returns-clause-exact c =
    meaning_from_parts steps c.args.text.now c.in_ok-numbers.numbers.items c.step.result
    c.in_ok-numbers.ensures.found.0.1
    (sym c.cut_at_space.ensures.from ∙ c.in_ok-numbers.ensures.found.1)
    (c.step.ensures ∙ rw (c.cut_at_space.ensures.before, c.as_slice.ensures.value))

pub returns-clause-found : goal.returns-clause-found
returns-clause-found c = found_is_step c.args.text.now c.step.result (returns-clause-exact c)

pub returns-clause-none : goal.returns-clause-none
returns-clause-none c = none_is_step c.args.text.now c.step.result (returns-clause-exact c)
