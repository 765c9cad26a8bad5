use Rattle.rhm_c.proofs.abort.abort.Goals as goal

pub returns : goal.returns
returns c = record { result = c.abort.result; is_result = c.abort.ensures.answer; given_is = c.counted.ensures }
