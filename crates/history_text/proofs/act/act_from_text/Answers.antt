use Rattle.std.proofs.Common.{sym, ◌∙◌}
use Rattle.decimal_text.proofs.Grammars.{meaning_from_parts, no_meaning_from_rest}
use Rattle.history_text.proofs.ActTexts.{acts}
use Rattle.history_text.proofs.act.act_from_text.Goals as goal

pub returns-in_err-numbers : goal.returns-in_err-numbers
returns-in_err-numbers c = rw c.from_residual.ensures (no_meaning_from_rest acts c.args.text.now (rw c.cut_at_space.ensures.from at c.in_err-numbers.ensures.none))

pub returns : goal.returns
returns c =
    meaning_from_parts acts c.args.text.now c.in_ok-numbers.numbers.items c.act.result
    c.in_ok-numbers.ensures.found.0.1
    (sym c.cut_at_space.ensures.from ∙ c.in_ok-numbers.ensures.found.1)
    (c.act.ensures ∙ rw (c.cut_at_space.ensures.before, c.as_slice.ensures.value))
