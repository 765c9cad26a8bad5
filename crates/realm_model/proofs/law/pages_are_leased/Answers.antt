use Rattle.realm_model.proofs.Pages.{pages_are_leased}
use Rattle.realm_model.proofs.law.pages_are_leased.Goals as goal

pub returns : goal.returns
returns c = λ limits history world build legal at. pages_are_leased limits build history world legal at
