-- Proofs that the addresses of one table entry are all below a boundary of an address space, or all at or above that
-- boundary.
use Rattle.std.proofs.Common.{◌≡◌, ◌≢◌, ℕ, zero, suc, ◌+◌, ◌-◌, ◌*◌, ◌/◌, ◌%◌, ◌^◌, ◌<◌, ◌≤◌, sym, ap, ◌∙◌, ⊎_elim, arith}
use Rattle.std.proofs.lemmas.Bool.{cases_eq, cases_lt}
use Rattle.std.proofs.lemmas.Nat.{pow-add, pow_below}
use Rattle.rmm_model.specs.Level.{entry_size, entry_index}
use Rattle.rmm_laws.proofs.Serving.{level_cases}

power_few : (j k : ℕ) → j ≤ k → 2 ^ j ≤ 2 ^ k
power_few j k few =
    ⊎_elim
    (λ (same : j ≡ k). (let equal : 2 ^ j ≡ 2 ^ k = ap (λ (n : ℕ). 2 ^ n) same in omega arith))
    (λ (other : j ≢ k). (let less = pow_below j k (omega arith) in omega arith))
    (cases_eq j k)

-- of two powers of 2, the larger is a multiple of the smaller
multiple_of : (k e : ℕ) → 2 ^ k ≤ 2 ^ e → (d : ℕ) × (2 ^ e ≡ 2 ^ d * 2 ^ k)
multiple_of k e few =
    ⊎_elim
    (λ (less : e < k). (let never = pow_below e k less in absurd (omega arith)))
    (λ (least : k ≤ e). (let sum : e - k + k ≡ e = omega arith in (e - k, ap (λ (n : ℕ). 2 ^ n) (sym sum) ∙ pow-add 2 (e - k) k)))
    (cases_lt e k)

abbrev IsSided : ℕ → Type 0
IsSided l = (e a b : ℕ) → entry_size l ≤ 2 ^ e → a / entry_size l ≡ b / entry_size l → a < 2 ^ e → b < 2 ^ e

-- an address covered by the same entry as an address below 2^e is below 2^e, if the entry's size is at most 2^e
pub side : (l : ℕ) → l ≤ 3 → (e a b : ℕ) → entry_size l ≤ 2 ^ e → a / entry_size l ≡ b / entry_size l → a < 2 ^ e → b < 2 ^ e
unfolding entry_size
side l few =
    level_cases IsSided
    (λ e a b size same low. (let it = multiple_of 39 e size in let whole = it.1 in omega arith))
    (λ e a b size same low. (let it = multiple_of 30 e size in let whole = it.1 in omega arith))
    (λ e a b size same low. (let it = multiple_of 21 e size in let whole = it.1 in omega arith))
    (λ e a b size same low. (let it = multiple_of 12 e size in let whole = it.1 in omega arith))
    l few

-- an entry that is smaller than an address space is at most half of it
half_of : (k s : ℕ) → 2 ^ k < 2 ^ s → 2 ^ k ≤ 2 ^ (s - 1)
half_of k s less =
    ⊎_elim
    (λ (more : k < s). power_few k (s - 1) (omega arith))
    (λ (most : s ≤ k). (let never = power_few s k most in absurd (omega arith)))
    (cases_lt k s)

pub half_size : (l : ℕ) → l ≤ 3 → (s : ℕ) → entry_size l < 2 ^ s → entry_size l ≤ 2 ^ (s - 1)
unfolding entry_size
half_size l few =
    level_cases (λ (k : ℕ). (s : ℕ) → entry_size k < 2 ^ s → entry_size k ≤ 2 ^ (s - 1)) (λ s less. half_of 39 s less) (λ s less. half_of 30 s less) (λ s less. half_of 21 s less) (λ s less. half_of 12 s less) l few

-- entries of deeper levels are no larger
pub sizes_fall : (l d : ℕ) → l + d ≤ 3 → entry_size (l + d) ≤ entry_size l
unfolding entry_size
sizes_fall zero zero few = omega arith
sizes_fall zero (suc zero) few = omega arith
sizes_fall zero (suc (suc zero)) few = omega arith
sizes_fall zero (suc (suc (suc zero))) few = omega arith
sizes_fall (suc zero) zero few = omega arith
sizes_fall (suc zero) (suc zero) few = omega arith
sizes_fall (suc zero) (suc (suc zero)) few = omega arith
sizes_fall (suc (suc zero)) zero few = omega arith
sizes_fall (suc (suc zero)) (suc zero) few = omega arith
sizes_fall (suc (suc (suc zero))) zero few = omega arith
sizes_fall l d few = absurd (omega arith)

-- if entry `n` of a level covers an address, then `n` times the entry size is at most the address, and is an address in
-- entry `n`
pub entry_start : (l : ℕ) → l ≤ 3 → (n ipa : ℕ) → ipa / entry_size l ≡ n → (n * entry_size l ≤ ipa) × (n * entry_size l / entry_size l ≡ n)
unfolding entry_size
entry_start l few =
    level_cases (λ (k : ℕ). (n ipa : ℕ) → ipa / entry_size k ≡ n → (n * entry_size k ≤ ipa) × (n * entry_size k / entry_size k ≡ n))
    (λ n ipa is. (omega arith, omega arith)) (λ n ipa is. (omega arith, omega arith)) (λ n ipa is. (omega arith, omega arith)) (λ n ipa is. (omega arith, omega arith)) l few

-- the number of the entry that covers an address, divided by 512, is that of the covering entry one level up
pub above : (l ipa : ℕ) → l ≤ 2 → ipa / entry_size (l + 1) / 512 ≡ ipa / entry_size l
unfolding entry_size
above zero ipa few = omega arith
above (suc zero) ipa few = omega arith
above (suc (suc zero)) ipa few = omega arith
above (suc (suc (suc l))) ipa few = absurd (omega arith)

parts : (q : ℕ) → q / 512 * 512 + q % 512 ≡ q
parts q = omega arith

pub whole_index : (level ipa : ℕ) → ipa / entry_size level / 512 * 512 + entry_index level ipa ≡ ipa / entry_size level
unfolding entry_index
whole_index level ipa = parts (ipa / entry_size level)
