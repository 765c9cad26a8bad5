-- A proof that no granule is free if no granule's free flag is set.
use Rattle.std.proofs.Common.{◌≡◌, ℕ, zero, suc, List, [], ◌∷◌, Bool, true, false, refl, length}
use Rattle.std.proofs.Math.Nat.{suc-ne-zero}
use Rattle.std.specs.List.{filter}
use Rattle.page_arena.specs.Page.{is_free}

-- if no flag is set, no granule is free
pub none_is_free : (flags : List Bool) (granule : ℕ) → length (filter (λ (flag : Bool). flag) flags) ≡ 0 → is_free flags granule ≡ false
none_is_free [] granule none = refl
none_is_free (true ∷ flags) granule none = absurd (suc-ne-zero (length (filter (λ (flag : Bool). flag) flags)) none)
none_is_free (false ∷ flags) zero none = refl
none_is_free (false ∷ flags) (suc granule) none = none_is_free flags granule none
