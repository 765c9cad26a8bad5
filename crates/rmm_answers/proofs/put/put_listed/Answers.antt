use Rattle.std.proofs.Common.{length, ap, ◌∙◌}
use Rattle.rmm_answers.proofs.Lengths.{length_listed}
use Rattle.rmm_answers.proofs.put.put_listed.Goals as goal

pub returns-clause-len : goal.returns-clause-len
returns-clause-len c = ap length c.push_word.ensures ∙ length_listed _ _ _
