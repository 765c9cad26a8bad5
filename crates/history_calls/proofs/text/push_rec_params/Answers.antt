use Rattle.history_calls.proofs.text.push_rec_params.Goals as goal

pub returns : goal.returns
returns c = rw c.as_slice.ensures.value at c.write.ensures.bytes
