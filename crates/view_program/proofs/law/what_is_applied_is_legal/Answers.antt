use Rattle.view_program.proofs.Legal.{legal_text}
use Rattle.view_program.proofs.law.what_is_applied_is_legal.Goals as goal

pub returns : goal.returns
returns c = legal_text
