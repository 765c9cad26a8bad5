-- Proofs that the RMM's test for the upper half of a realm's address space agrees with the model's test.
use Rattle.std.proofs.Common.{◌≡◌, ℕ, zero, suc, ◌-◌, ◌*◌, ◌/◌, ◌%◌, ◌^◌, ◌<◌, ◌≤◌, ◌&&◌, not, nat_le, nat_lt, arith}
use Rattle.std.proofs.lemmas.Nat.{pow_below}
use Rattle.std.proofs.Math.Nat.{pow-suc}
use Rattle.std.proofs.lemmas.Grind.{common_steps}

-- half the size of an address space, as the RMM computes it from the width
abbrev half : ℕ → ℕ
half width = 1 * 2 ^ width % 18446744073709551616 / 2

-- half the size of an address space of n + 1 bits, as the RMM computes it, is 2^n, if n + 1 is at most 48
half_is : (n : ℕ) → suc n ≤ 48 → half (suc n) ≡ 2 ^ n
half_is n narrow =
    let twice = pow-suc 2 n in
    let below = pow_below n 48 narrow in
    omega arith

-- for a width of at most 48 and an IPA from `half width` on, the RMM's test for the upper half agrees with the model's
pub from_half : (width ipa : ℕ) → width ≤ 48 → half width ≤ ipa → nat_lt (ipa - half width) (half width) ≡ (not (nat_lt ipa (2 ^ (width - 1))) && nat_lt ipa (2 ^ width))
from_half zero ipa narrow from = grind (arith, common_steps)
from_half (suc n) ipa narrow from =
    let twice = pow-suc 2 n in
    let is = half_is n narrow in
    grind (arith, common_steps)

-- for a width of at most 48 and an IPA below `half width`, the RMM's comparison with `half width` agrees with the
-- model's test for the upper half
pub before_half : (width ipa : ℕ) → width ≤ 48 → ipa < half width → nat_le (half width) ipa ≡ (not (nat_lt ipa (2 ^ (width - 1))) && nat_lt ipa (2 ^ width))
before_half zero ipa narrow before = grind (arith, common_steps)
before_half (suc n) ipa narrow before =
    let is = half_is n narrow in
    grind (arith, common_steps)
