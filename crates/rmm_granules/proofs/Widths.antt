-- Proofs that an IPA of a realm has at most 48 bits, and that an IPA of the lower half is in the realm's address space.
use Rattle.std.proofs.Common.{◌≡◌, ℕ, ◌-◌, ◌^◌, ◌<◌, ◌≤◌, ⊎_elim, subst, arith}
use Rattle.std.proofs.lemmas.Bool.{cases_lt}
use Rattle.std.proofs.lemmas.Nat.{pow_below}

-- an address of a realm has at most 48 bits
pub space_fits : (width ipa : ℕ) → width ≤ 48 → ipa < 2 ^ width → ipa < 2 ^ 48
space_fits width ipa narrow within =
    ⊎_elim
    (λ (less : width < 48). let more = pow_below width 48 less in omega arith)
    (λ (most : 48 ≤ width). let same : width ≡ 48 = omega arith in subst (λ (w : ℕ). ipa < 2 ^ w) same within)
    (cases_lt width 48)

-- an address in the lower half of an address space is in that space
pub half_fits : (width ipa : ℕ) → ipa < 2 ^ (width - 1) → ipa < 2 ^ width
half_fits width ipa within =
    ⊎_elim
    (λ (less : width - 1 < width). let more = pow_below (width - 1) width less in omega arith)
    (λ (most : width ≤ width - 1). let same : width - 1 ≡ width = omega arith in subst (λ (w : ℕ). ipa < 2 ^ w) same within)
    (cases_lt (width - 1) width)
