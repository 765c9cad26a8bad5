use Rattle.std.proofs.Common.{Ok, Err, ap, ◌∙◌}
use Rattle.rhm_c.specs.Answer.{done}
use Rattle.rhm_c.proofs.marks.mark.Goals as goal

pub returns-in-Ok : goal.returns-in-Ok
returns-in-Ok c = record { result = Ok c.in-Ok.mark; is_result = c.in-Ok.ensures; given_is = c.done.ensures ∙ ap done (c.from.ensures ∙ c.length.ensures) }

pub returns-in-Err : goal.returns-in-Err
returns-in-Err c = record { result = Err c.in-Err.refusal; is_result = c.in-Err.ensures; given_is = c.refused.ensures }
