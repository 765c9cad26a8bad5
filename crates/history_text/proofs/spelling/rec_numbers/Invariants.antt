use Rattle.std.proofs.Common.{◌≡◌, ◌∷◌, take}
use Rattle.history_text.proofs.spelling.rec_numbers.Given as goal

abbrev pub invariant-loop-auxiliary : goal.invariant-loop-auxiliary
invariant-loop-auxiliary l = l.numbers.items ≡ l.fn.granule ∷ l.fn.number ∷ take l.auxiliary-index l.auxiliaries
