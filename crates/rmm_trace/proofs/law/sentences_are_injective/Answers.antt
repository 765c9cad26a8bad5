use Rattle.rmm_trace.proofs.Sentences.{sentence_injective}
use Rattle.rmm_trace.proofs.law.sentences_are_injective.Goals as goal

pub returns : goal.returns
returns c = sentence_injective
