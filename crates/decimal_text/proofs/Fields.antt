-- Proofs that the loop of `numbers_of` preserves its invariant: the text read so far spells the numbers found, and the
-- unread text spells any further numbers.
use Rattle.std.proofs.Common.{◌≡◌, ◌≢◌, ℕ, ◌<◌, ◌^◌, List, [], ◌∷◌, ◌++◌, length, length-append, sym, ap, ◌∙◌, arith}
use mathlib.Core.List.{append_assoc}
use Rattle.std.specs.List.{AllByRecursion}
use Rattle.std.specs.Fmt.{decimal}
use Rattle.std.proofs.lemmas.Str.Parse.{not_in_digits}
use Rattle.std.proofs.lemmas.Fmt.{digits_decimal, decimal_injective}
use Rattle.decimal_text.specs.Numbers.{AreNumbers, spelled_numbers, before_space, from_space}
use Rattle.decimal_text.proofs.Decimals.{ascii_numerals}
use Rattle.decimal_text.proofs.Cuts.{HasNoSpace, before_space-spelled, from_space-spelled, cut_joins}

pub no_space_decimal : (n : ℕ) → n < 2 ^ 64 → HasNoSpace (decimal n)
no_space_decimal n small = not_in_digits ascii_numerals (decimal n) 32 (digits_decimal ascii_numerals n small) (λ r. omega (arith, r))

-- the list `ns` begins with `found`, and `rest` spells its other numbers
abbrev pub GoesOn : List ℕ → List ℕ → List ℕ → Type 0
GoesOn found ns rest = (ms : List ℕ) × (ns ≡ found ++ ms) × (rest ≡ spelled_numbers ms)

-- the list `ns` has a number below 2^32 after `found`, and `fields` spells that number and the later numbers, without a
-- leading space
pub record Next (found ns fields : List ℕ) : Type 0 where
  pub number : ℕ
  pub more : List ℕ
  pub split : ns ≡ found ++ number ∷ more
  pub small : number < 2 ^ 32
  pub field : before_space fields ≡ decimal number
  pub after : from_space fields ≡ spelled_numbers more

all_after : (P : ℕ → Type 0) (xs ys : List ℕ) → AllByRecursion P (xs ++ ys) → AllByRecursion P ys
all_after P [] ys h = h
all_after P (x ∷ xs) ys h = all_after P xs ys h.1

next_of : (found ns fields : List ℕ) (ms : List ℕ) → AllByRecursion (λ n. n < 2 ^ 32) ns → ns ≡ found ++ ms → 32 ∷ fields ≡ spelled_numbers ms → Next found ns fields
next_of found ns fields [] all same spelled = absurd (cc)
next_of found ns fields (m ∷ ms) all same spelled =
    let rest : fields ≡ decimal m ++ spelled_numbers ms = cc in
    let here = all_after (λ n. n < 2 ^ 32) found (m ∷ ms) (rw same at all) in
    let small : m < 2 ^ 32 = here.0 in
    let wide : m < 2 ^ 64 = omega arith in
    record {
      number = m;
      more = ms;
      split = same;
      small = small;
      field = rw rest (before_space-spelled (decimal m) ms (no_space_decimal m wide));
      after = rw rest (from_space-spelled (decimal m) ms (no_space_decimal m wide));
    }

pub next_field : (most : ℕ) (found ns fields rest : List ℕ) → AreNumbers most ns → rest ≡ 32 ∷ fields → GoesOn found ns rest → Next found ns fields
next_field most found ns fields rest are begins on = next_of found ns fields on.0 are.1 on.1 (sym begins ∙ on.2)

-- if a list has at most `most` numbers, of which `most` are found, no number follows
pub full_has_no_next : (most : ℕ) (found ns fields : List ℕ) → AreNumbers most ns → length found ≡ most → Next found ns fields → ⊥
full_has_no_next most found ns fields are full next = omega (arith, are.0, simp length-append at (ap length next.split))

-- after one more number is found, the rest of the text spells the numbers after it
pub goes_on_more : (found ns fields : List ℕ) (n : ℕ) → n < 2 ^ 32 → before_space fields ≡ decimal n → Next found ns fields → GoesOn (found ++ n ∷ []) ns (from_space fields)
goes_on_more found ns fields n small is next =
    let wide : n < 2 ^ 64 = omega arith in
    let wide' : next.number < 2 ^ 64 = omega (arith, next.small) in
    let same : next.number ≡ n = decimal_injective next.number n wide' wide (sym next.field ∙ is) in
    (next.more, next.split ∙ rw (append_assoc, same), next.after)

one_more : (found : List ℕ) (n : ℕ) (rest : List ℕ) → spelled_numbers found ++ (32 ∷ (decimal n ++ rest)) ≡ spelled_numbers (found ++ n ∷ []) ++ rest
one_more [] n rest = ap (λ t. 32 ∷ t) (sym (append_assoc (decimal n) [] rest))
one_more (m ∷ found) n rest = ap (λ t. 32 ∷ t) (append_assoc (decimal m) (spelled_numbers found) (32 ∷ (decimal n ++ rest)) ∙ ap (λ t. decimal m ++ t) (one_more found n rest)
    ∙ sym (append_assoc (decimal m) (spelled_numbers (found ++ n ∷ [])) rest))

-- after one more number is found, the text is still the spelling of the found numbers, followed by the unread rest
pub spelled_more : (text found fields rest : List ℕ) (n : ℕ) → text ≡ spelled_numbers found ++ rest → rest ≡ 32 ∷ fields → before_space fields ≡ decimal n
    → text ≡ spelled_numbers (found ++ n ∷ []) ++ from_space fields
spelled_more text found fields rest n so_far begins is =
    let joined : fields ≡ decimal n ++ from_space fields = cut_joins fields ∙ ap (λ t. t ++ from_space fields) is in
    so_far ∙ rw begins (ap (λ t. spelled_numbers found ++ 32 ∷ t) joined ∙ one_more found n (from_space fields))

-- a text that does not go on with a space spells no further number
pub ends_spelled : (found ns rest : List ℕ) → ((more : List ℕ) → rest ≢ 32 ∷ more) → GoesOn found ns rest → rest ≡ []
ends_spelled found ns rest ends on = elim on.0 as (λ ms. rest ≡ spelled_numbers ms → rest ≡ []) [
  | [] ↦ λ e. e
  | m ∷ ms ↦ λ e. absurd (ends _ e)
] on.2

all_more : (P : ℕ → Type 0) (xs : List ℕ) (n : ℕ) → AllByRecursion P xs → P n → AllByRecursion P (xs ++ n ∷ [])
all_more P [] n h here = (here, tt)
all_more P (x ∷ xs) n h here = (h.0, all_more P xs n h.1 here)

pub are_numbers_more : (most : ℕ) (found : List ℕ) (n : ℕ) → AreNumbers most found → length found < most → n < 2 ^ 32 → AreNumbers most (found ++ n ∷ [])
are_numbers_more most found n are room small = (simp length-append (omega arith), all_more (λ n. n < 2 ^ 32) found n are.1 small)
