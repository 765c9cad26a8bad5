use Rattle.history_text.proofs.EventTexts.{written_once}
use Rattle.history_text.proofs.law.event_texts_are_injective.Goals as goal

pub returns : goal.returns
returns c = written_once
