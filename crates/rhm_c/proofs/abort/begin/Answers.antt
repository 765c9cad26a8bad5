use Rattle.rhm_c.proofs.abort.begin.Goals as goal

pub returns : goal.returns
returns c = record { result = c.begin_abort.result; is_result = c.begin_abort.ensures.answer; given_is = c.counted.ensures }
