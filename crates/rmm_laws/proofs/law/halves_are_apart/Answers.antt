use Rattle.rmm_laws.proofs.Seats.{walk_half, walk_placed}
use Rattle.rmm_laws.proofs.law.halves_are_apart.Goals as goal

pub returns-clause-half : goal.returns-clause-half
returns-clause-half c = λ m rd ipa level realm proper is within. walk_half m proper.linked proper.ordered.halves rd ipa realm is within level

pub returns-clause-placed : goal.returns-clause-placed
returns-clause-placed c = λ m rd ipa level realm proper is within. walk_placed m proper.linked proper.ordered.halves rd ipa realm is within level
