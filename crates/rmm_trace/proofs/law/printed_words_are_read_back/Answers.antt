use Rattle.rmm_trace.proofs.Sentences.{sentence_back}
use Rattle.rmm_trace.proofs.law.printed_words_are_read_back.Goals as goal

pub returns : goal.returns
returns c = sentence_back
