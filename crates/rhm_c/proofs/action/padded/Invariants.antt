use Rattle.std.proofs.Common.{◌≡◌, ℕ, ◌<◌, length, get_or}
use Rattle.std.specs.Prelude.{slice_index_or}
use Rattle.rhm_c.proofs.action.padded.Given as goal

abbrev pub invariant-places : goal.invariant-places
invariant-places l = (length l.aux ≡ 16) × ((k : ℕ) → k < l.place → get_or l.aux k 0 ≡ slice_index_or l.auxiliaries k 0)
