-- Proofs that different lists of 32-bit numbers have different spellings, and that spellings are ASCII.
use Rattle.std.proofs.Common.{◌≡◌, ℕ, zero, suc, ◌<◌, ◌^◌, List, [], ◌∷◌, ◌++◌, true, not, eqb, ltb, IsAscii, refl, sym, ap, ◌∙◌, arith}
use Rattle.std.specs.List.{AllByRecursion, list_all}
use Rattle.std.specs.Fmt.{decimal}
use Rattle.std.proofs.lemmas.Bool.{and_parts, eqb-false, ltb-true, not-true}
use Rattle.std.proofs.lemmas.Str.{IsAscii-append}
use Rattle.std.proofs.lemmas.Str.Ascii.{IsAscii-nil, IsAscii-cons}
use Rattle.std.proofs.lemmas.Fmt.{decimal_injective, IsAscii-decimal}
use Rattle.decimal_text.specs.Numbers.{spelled_numbers, before_space, from_space}
use Rattle.decimal_text.specs.Ranges.{AreAtMost}
use Rattle.decimal_text.proofs.Cuts.{HasNoSpace, before_space-spelled, from_space-spelled}
use Rattle.decimal_text.proofs.Fields.{no_space_decimal}

-- if the test of each byte finds no space, `HasNoSpace` holds of the bytes; for a constant word, the prover evaluates
-- the test
pub no_space_from_test : (bs : List ℕ) → list_all (λ b. not (eqb b 32)) bs ≡ true → HasNoSpace bs
no_space_from_test [] h i within = absurd (omega arith)
no_space_from_test (b ∷ bs) h zero within = λ e. let parts = and_parts (not (eqb b 32)) (list_all (λ b. not (eqb b 32)) bs) h in eqb-false b 32 (not-true _ parts.0) e
no_space_from_test (b ∷ bs) h (suc i) within = let parts = and_parts (not (eqb b 32)) (list_all (λ b. not (eqb b 32)) bs) h in no_space_from_test bs parts.1 i (omega arith)

pub small_from_maxima : (ns ms : List ℕ) → AreAtMost ns ms → AllByRecursion (λ m. m < 2 ^ 32) ms → AllByRecursion (λ n. n < 2 ^ 32) ns
small_from_maxima [] [] h k = tt
small_from_maxima [] (m ∷ ms) h k = tt
small_from_maxima (n ∷ ns) [] h k = absurd h
small_from_maxima (n ∷ ns) (m ∷ ms) h k = (omega (arith, h.0, k.0), small_from_maxima ns ms h.1 k.1)

pub spelled_injective : (ms ns : List ℕ) → AllByRecursion (λ n. n < 2 ^ 32) ms → AllByRecursion (λ n. n < 2 ^ 32) ns → spelled_numbers ms ≡ spelled_numbers ns → ms ≡ ns
spelled_injective [] [] h k e = refl
spelled_injective [] (n ∷ ns) h k e = absurd (cc)
spelled_injective (m ∷ ms) [] h k e = absurd (cc)
spelled_injective (m ∷ ms) (n ∷ ns) h k e =
    let fields : decimal m ++ spelled_numbers ms ≡ decimal n ++ spelled_numbers ns = cc in
    let m_wide : m < 2 ^ 64 = omega (arith, h.0) in
    let n_wide : n < 2 ^ 64 = omega (arith, k.0) in
    let heads = sym (before_space-spelled (decimal m) ms (no_space_decimal m m_wide)) ∙ ap before_space fields ∙ before_space-spelled (decimal n) ns (no_space_decimal n n_wide) in
    let tails = sym (from_space-spelled (decimal m) ms (no_space_decimal m m_wide)) ∙ ap from_space fields ∙ from_space-spelled (decimal n) ns (no_space_decimal n n_wide) in
    rw (decimal_injective m n m_wide n_wide heads) (ap (λ t. n ∷ t) (spelled_injective ms ns h.1 k.1 tails))

-- ---- ASCII

pub IsAscii-from_test : (bs : List ℕ) → list_all (λ b. ltb b 128) bs ≡ true → IsAscii bs
IsAscii-from_test [] h = IsAscii-nil
IsAscii-from_test (b ∷ bs) h =
    let parts = and_parts (ltb b 128) (list_all (λ c. ltb c 128) bs) h in
    IsAscii-cons b bs (ltb-true b 128 parts.0) (IsAscii-from_test bs parts.1)

pub IsAscii-spelled : (ns : List ℕ) → AllByRecursion (λ n. n < 2 ^ 32) ns → IsAscii (spelled_numbers ns)
IsAscii-spelled [] h = IsAscii-nil
IsAscii-spelled (n ∷ ns) h =
    let wide : n < 2 ^ 64 = omega (arith, h.0) in
    IsAscii-cons 32 (decimal n ++ spelled_numbers ns) (omega arith) (IsAscii-append (decimal n) (spelled_numbers ns) (IsAscii-decimal n wide) (IsAscii-spelled ns h.1))
