-- Lemmas about the number that a list of decimal digits represents: the effect of an appended digit, a replaced digit
-- and a carry.
use Rattle.std.proofs.Common.{◌≡◌, ℕ, zero, suc, ◌+◌, ◌*◌, ◌^◌, ◌/◌, ◌%◌, ◌<◌, List, [], ◌∷◌, ◌++◌, length, length-append, take, set, get_or, refl, ap, ◌∙◌, arith, mul_left_comm, mul_assoc, add-mul, add-one}
use native.Mathlib.Nat.{pow-succ'}
use Rattle.schedule_graph.specs.Number.{number_of}

-- one place higher, a digit is worth ten times as much
one_place_up : (d k : ℕ) → d * 10 ^ suc k ≡ 10 * (d * 10 ^ k)
one_place_up d k = ap (λ p. d * p) (pow-succ' 10 k) ∙ mul_left_comm d 10 (10 ^ k)

pub number_of-push : (digits : List ℕ) (d : ℕ) → number_of (digits ++ d ∷ []) ≡ number_of digits + d * 10 ^ length digits
unfolding number_of
number_of-push [] d = omega arith
number_of-push (x ∷ digits) d =
    let below = number_of-push digits d in
    let up = one_place_up d (length digits) in
    omega (arith, below, up)

pub number_of-set : (digits : List ℕ) (i y : ℕ) → i < length digits → number_of (set digits i y) + get_or digits i 0 * 10 ^ i ≡ number_of digits + y * 10 ^ i
unfolding number_of
number_of-set [] i y inside = absurd (omega arith)
number_of-set (x ∷ digits) zero y inside = omega arith
number_of-set (x ∷ digits) (suc i) y inside =
    let below = number_of-set digits i y (omega arith) in
    let old = one_place_up (get_or digits i 0) i in
    let new = one_place_up y i in
    omega (arith, below, old, new)

take_suc : (digits : List ℕ) (i : ℕ) → i < length digits → number_of (take (suc i) digits) ≡ number_of (take i digits) + get_or digits i 0 * 10 ^ i
unfolding number_of
take_suc [] i inside = absurd (omega arith)
take_suc (x ∷ digits) zero inside = omega arith
take_suc (x ∷ digits) (suc i) inside =
    let below = take_suc digits i (omega arith) in
    let up = one_place_up (get_or digits i 0) i in
    omega (arith, below, up)

pub number_of-take : (digits : List ℕ) (i : ℕ) → i < length digits → number_of (take (i + 1) digits) ≡ number_of (take i digits) + get_or digits i 0 * 10 ^ i
number_of-take digits i inside = ap (λ n. number_of (take n digits)) (add-one i) ∙ take_suc digits i inside

pub number_of_none : number_of [] ≡ 0
unfolding number_of
number_of_none = refl

pub number_of_one : number_of (1 ∷ []) ≡ 1
unfolding number_of
number_of_one = refl

-- the digit `sum % 10` at place `k` and the carry `sum / 10` at place `k + 1` are together worth `sum` at place `k`
carried : (sum k : ℕ) → sum % 10 * 10 ^ k + sum / 10 * 10 ^ (k + 1) ≡ sum * 10 ^ k
carried sum k =
    let split : sum ≡ sum % 10 + 10 * (sum / 10) = omega arith in
    let parts : sum * 10 ^ k ≡ sum % 10 * 10 ^ k + 10 * (sum / 10) * 10 ^ k = ap (λ n. n * 10 ^ k) split ∙ add-mul (sum % 10) (10 * (sum / 10)) (10 ^ k) in
    let tens = mul_assoc 10 (sum / 10) (10 ^ k) in
    let up : sum / 10 * 10 ^ (k + 1) ≡ 10 * (sum / 10 * 10 ^ k) = ap (λ n. sum / 10 * 10 ^ n) (add-one k) ∙ one_place_up (sum / 10) k in
    omega (arith, parts, tens, up)

-- when a carry is added to the digit at its place, the number and the new carry together are worth the old number and
-- the old carry
pub carry_step : (digits : List ℕ) (at carry : ℕ) → at < length digits
    → number_of (set digits at ((get_or digits at 0 + carry) % 10)) + (get_or digits at 0 + carry) / 10 * 10 ^ (at + 1) ≡ number_of digits + carry * 10 ^ at
carry_step digits at carry inside =
    let digit : ℕ = get_or digits at 0 in
    let new = number_of-set digits at ((digit + carry) % 10) inside in
    let over = carried (digit + carry) at in
    let both = add-mul digit carry (10 ^ at) in
    omega (arith, new, over, both)

-- when the last digit of a carry is appended, the number and the new carry together are worth the old number and the
-- old carry
pub push_step : (digits : List ℕ) (carry : ℕ)
    → number_of (digits ++ carry % 10 ∷ []) + carry / 10 * 10 ^ length (digits ++ carry % 10 ∷ []) ≡ number_of digits + carry * 10 ^ length digits
push_step digits carry =
    let new = number_of-push digits (carry % 10) in
    let over = carried carry (length digits) in
    let long : length (digits ++ carry % 10 ∷ []) ≡ length digits + 1 = length-append digits (carry % 10 ∷ []) in
    let there : carry / 10 * 10 ^ length (digits ++ carry % 10 ∷ []) ≡ carry / 10 * 10 ^ (length digits + 1) = ap (λ n. carry / 10 * 10 ^ n) long in
    omega (arith, new, over, there)

-- if the exponent of a power of two grows by one, a product with that power doubles
pub doubled : (n k : ℕ) → n * 2 ^ (k + 1) ≡ n * 2 ^ k + n * 2 ^ k
doubled n k =
    let up : n * 2 ^ (k + 1) ≡ 2 * (n * 2 ^ k) = ap (λ m. n * 2 ^ m) (add-one k) ∙ ap (λ p. n * p) (pow-succ' 2 k) ∙ mul_left_comm n 2 (2 ^ k) in
    omega (arith, up)

alone : (n : ℕ) → number_of [] + n * 10 ^ 0 ≡ n
unfolding number_of
alone n = omega arith

-- if a number has no digits yet, the number and a carry of `n` are together worth `n`
pub from_none : (digits : List ℕ) (n : ℕ) → digits ≡ [] → number_of digits + n * 10 ^ length digits ≡ n
from_none digits n none = ap (λ ds. number_of ds + n * 10 ^ length ds) none ∙ alone n
