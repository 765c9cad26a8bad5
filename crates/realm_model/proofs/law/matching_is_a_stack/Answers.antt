use Rattle.realm_model.proofs.Stack.{unmatched-stack}
use Rattle.realm_model.proofs.law.matching_is_a_stack.Goals as goal

pub returns : goal.returns
returns c = unmatched-stack
