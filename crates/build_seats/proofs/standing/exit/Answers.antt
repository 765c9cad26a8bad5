use Rattle.std.proofs.Common.{rules}
use Rattle.arrayvec.proofs.ArrayVecLemmas.{filter-from_retain}
use Rattle.build_seats.proofs.standing.exit.Goals as goal

pub returns : goal.returns
returns c = filter-from_retain _ _ _ (λ x b f' y called. search rules) _ _ c.retain.ensures.filtered
