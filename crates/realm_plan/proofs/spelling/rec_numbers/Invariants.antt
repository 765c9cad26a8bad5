use Rattle.std.proofs.Common.{◌≡◌, ◌∷◌, take}
use Rattle.realm_plan.proofs.spelling.rec_numbers.Given as goal

abbrev pub invariant-loop-auxiliary : goal.invariant-loop-auxiliary
invariant-loop-auxiliary l = l.numbers.items ≡ l.page ∷ take l.auxiliary-index l.auxiliaries
