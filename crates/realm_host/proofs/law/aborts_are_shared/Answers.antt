use Rattle.realm_host.proofs.Sharing.{shared}
use Rattle.realm_host.proofs.law.aborts_are_shared.Goals as goal

pub returns : goal.returns
returns c = λ old begun host build count calls legal begins meanwhile. shared old begun host build count calls legal begins meanwhile
