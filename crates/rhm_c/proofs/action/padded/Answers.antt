use Rattle.std.proofs.Common.{ℕ, rules}
use Rattle.std.specs.Prelude.{slice_index_or}
use Rattle.std.proofs.lemmas.List.FromFn.{fill_by_all}
use Rattle.rhm_c.proofs.action.padded.Goals as goal

pub returns : goal.returns
returns c = fill_by_all (λ (k : ℕ). slice_index_or c.args.auxiliaries.now k 0) c.places.aux 16 0 c.places.invariant.0 (search rules)
