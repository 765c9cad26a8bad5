use Rattle.rtt.proofs.RowWords.{row_words}
use Rattle.rtt.proofs.law.tables_are_words.Goals as goal

pub returns : goal.returns
returns c pages granules rd root tables = row_words pages root granules rd tables
