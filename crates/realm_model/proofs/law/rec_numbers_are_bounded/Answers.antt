use Rattle.realm_model.proofs.RealmNumbers.{rec_numbers_are_bounded}
use Rattle.realm_model.proofs.law.rec_numbers_are_bounded.Goals as goal

pub returns : goal.returns
returns c = λ limits history world build legal at. rec_numbers_are_bounded limits history world build legal at
