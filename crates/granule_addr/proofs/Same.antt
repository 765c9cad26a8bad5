-- The proof that a lookup in a list of copies of one value gives that value, if the lookup's default is that value too.
use Rattle.std.proofs.Common.{◌≡◌, ℕ, zero, suc, replicate, get_or, refl}

-- looking up an index in a list of copies of `x` gives `x`, also past the end, where `x` is the default
pub same_each : {A : Type 0} (n i : ℕ) (x : A) → get_or (replicate n x) i x ≡ x
same_each zero i x = refl
same_each (suc n) zero x = refl
same_each (suc n) (suc i) x = same_each n i x
