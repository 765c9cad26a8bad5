use Rattle.rtt.proofs.RowWords.{rows_said}
use Rattle.rtt.proofs.law.rows_are_entries.Goals as goal

pub returns : goal.returns
returns c pages root level ipa row at = rows_said pages root level ipa row at
