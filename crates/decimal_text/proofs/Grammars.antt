-- A proof that a text means a value of a grammar if and only if the text spells the value's word and numbers, and the
-- value is in its range.
use Rattle.std.proofs.Common.{◌≡◌, ◌≢◌, ℕ, suc, ◌<◌, ◌^◌, List, [], ◌∷◌, ◌++◌, map, Bool, true, false, cond, ltb, ◌&&◌, Option, Some, None, option_map, refl, sym, ap, ◌∙◌, arith}
use Rattle.std.specs.Prelude.{option_and_then, ◌==◌}
use mathlib.Core.List.{append-nil}
use Rattle.std.specs.List.{AllByRecursion, slice_split, join_with_byte}
use Rattle.std.specs.Fmt.{decimal}
use Rattle.std.specs.Str.{bytes_eq}
use Rattle.std.specs.Str.Parse.{digits_value}
use Rattle.std.proofs.lemmas.Bool.{lt-ltb, and_parts, ne_eqb}
use Rattle.std.proofs.lemmas.Slice.Eq.{bytes_eq-Decides}
use Rattle.std.proofs.lemmas.Fmt.{digits_value-decimal}
use Rattle.std.proofs.lemmas.List.Splits.{join_with_byte-slice_split}
use Rattle.decimal_text.specs.Numbers.{AreNumbers, spelled_numbers, before_space, from_space, number_of_digits, numbers_of_digits}
use Rattle.decimal_text.specs.Grammar.{spelled, meaning_of_fields, meaning_of_text}
use Rattle.decimal_text.proofs.Cuts.{HasNoSpace, before_space-spelled, from_space-spelled, cut_joins}
use Rattle.decimal_text.proofs.Decimals.{ascii_numerals}
use Rattle.decimal_text.proofs.Fields.{no_space_decimal}
use Rattle.decimal_text.proofs.Spelled.{spelled_injective}

-- the value has this word and these numbers, and is in range
pub record Spells {A : Type 0} (word_of numbers_of : A → List ℕ) (IsInRange : A → Type 0) (word ns : List ℕ) (value : A) : Type 0 where
  pub word_is : word ≡ word_of value
  pub numbers_are : ns ≡ numbers_of value
  pub in_range : IsInRange value

-- `meaning` gives a value for a word and numbers if and only if the value has this word and these numbers, and is in
-- range. Words have no space, and a value in range has at most `most` numbers, each below 2^32.
pub record IsGrammar {A : Type 0} (word_of numbers_of : A → List ℕ) (IsInRange : A → Type 0) (meaning : List ℕ → List ℕ → Option A) (most : ℕ) : Type 0 where
  pub means : (value : A) → IsInRange value → meaning (word_of value) (numbers_of value) ≡ Some value
  pub spells : (word ns : List ℕ) (value : A) → meaning word ns ≡ Some value → Spells word_of numbers_of IsInRange word ns value
  pub one_word : (value : A) → HasNoSpace (word_of value)
  pub few_numbers : (value : A) → IsInRange value → AreNumbers most (numbers_of value)

-- ---- tests and options

pub test_from_some : {A : Type 0} (t : Bool) (x y : A) → cond t (Some x) None ≡ Some y → (t ≡ true) × (x ≡ y)
test_from_some true x y e = (refl, cc)
test_from_some false x y e = absurd (cc)

pub bind_some : {A B : Type 0} (f : A → Option B) (o : Option A) (y : B) → option_and_then f o ≡ Some y → (x : A) × (o ≡ Some x) × (f x ≡ Some y)
bind_some f None y e = absurd (cc)
bind_some f (Some x) y e = (x, refl, e)

pub map_some : {A B : Type 0} (f : A → B) (o : Option A) (y : B) → option_map f o ≡ Some y → (x : A) × (o ≡ Some x) × (f x ≡ y)
map_some f None y e = absurd (cc)
map_some f (Some x) y e = (x, refl, cc)

-- ---- numbers at the words of a text

number_of_digits-decimal : (n : ℕ) → n < 2 ^ 32 → number_of_digits (decimal n) ≡ Some n
number_of_digits-decimal n small =
    let wide : n < 2 ^ 64 = omega arith in
    let value : digits_value 10 (decimal n) ≡ n = digits_value-decimal ascii_numerals n wide in
    rw (value, lt-ltb n (2 ^ 32) small, (bytes_eq-Decides (decimal n) (decimal n)).1 refl) refl

numbers_of_digits-decimals : (ns : List ℕ) → AllByRecursion (λ n. n < 2 ^ 32) ns → numbers_of_digits (map decimal ns) ≡ Some ns
numbers_of_digits-decimals [] h = refl
numbers_of_digits-decimals (n ∷ ns) h = rw (number_of_digits-decimal n h.0, numbers_of_digits-decimals ns h.1) refl

split_cons : (b : ℕ) (bs : List ℕ) (w : List ℕ) (rest : List (List ℕ)) → b ≢ 32 → slice_split (λ c. c == 32) bs ≡ w ∷ rest → slice_split (λ c. c == 32) (b ∷ bs) ≡ (b ∷ w) ∷ rest
split_cons b bs w rest apart h = rw (ne_eqb b 32 apart, h) refl

split_spelled : (w ns : List ℕ) → HasNoSpace w → AllByRecursion (λ n. n < 2 ^ 32) ns → slice_split (λ c. c == 32) (w ++ spelled_numbers ns) ≡ w ∷ map decimal ns
split_spelled [] [] h k = refl
split_spelled [] (n ∷ ns) h k =
    let wide : n < 2 ^ 64 = omega (arith, k.0) in
    ap (λ t. [] ∷ t) (split_spelled (decimal n) ns (no_space_decimal n wide) k.1)
split_spelled (b ∷ w) ns h k = split_cons b (w ++ spelled_numbers ns) w (map decimal ns) (h 0 (omega arith)) (split_spelled w ns (λ i within. h (suc i) (omega arith)) k)

number_of_digits-some : (field : List ℕ) (n : ℕ) → number_of_digits field ≡ Some n → field ≡ decimal n
number_of_digits-some field n e =
    let value = digits_value 10 field in
    let (test, same) = test_from_some (ltb value (2 ^ 32) && bytes_eq (decimal value) field) value n e in
    let parts = and_parts (ltb value (2 ^ 32)) (bytes_eq (decimal value) field) test in
    sym ((bytes_eq-Decides (decimal value) field).0 parts.1) ∙ ap decimal same

joined_more : (word field joined_fields : List ℕ) (ns more : List ℕ) (n : ℕ) → field ≡ decimal n → n ∷ more ≡ ns → joined_fields ≡ field ++ spelled_numbers more
    → word ++ (32 ∷ joined_fields) ≡ word ++ spelled_numbers ns
joined_more word field joined_fields ns more n here same go_on = ap (λ t. word ++ 32 ∷ t) (go_on ∙ rw here refl) ∙ ap (λ t. word ++ spelled_numbers t) same

joined : (word : List ℕ) (fields : List (List ℕ)) (ns : List ℕ) → numbers_of_digits fields ≡ Some ns → join_with_byte 32 (word ∷ fields) ≡ word ++ spelled_numbers ns
joined word [] ns e = let none : ns ≡ [] = cc in rw none (sym (append-nil word))
joined word (field ∷ fields) ns e =
    let found = bind_some _ (number_of_digits field) ns e in
    let more = map_some _ (numbers_of_digits fields) ns found.2 in
    let here : field ≡ decimal found.0 = number_of_digits-some field found.0 found.1 in
    joined_more word field (join_with_byte 32 (field ∷ fields)) ns more.0 found.0 here more.2 (joined field fields more.0 more.1)

-- ---- texts of a grammar

spelled_same : {A : Type 0} {word_of numbers_of : A → List ℕ} {IsInRange : A → Type 0} (word ns : List ℕ) (value : A) → Spells word_of numbers_of IsInRange word ns value
    → word ++ spelled_numbers ns ≡ spelled (word_of value) (numbers_of value)
spelled_same word ns value spells = rw (spells.word_is, spells.numbers_are) refl

module _ {A : Type 0} {word_of numbers_of : A → List ℕ} {IsInRange : A → Type 0} {meaning : List ℕ → List ℕ → Option A} {most : ℕ} where
  pub meaning_of_spelled : IsGrammar word_of numbers_of IsInRange meaning most → (text : List ℕ) (value : A) → text ≡ spelled (word_of value) (numbers_of value) → IsInRange value
      → meaning_of_text meaning text ≡ Some value
  meaning_of_spelled grammar text value is in_range =
      let are = grammar.few_numbers value in_range in
      rw (is, split_spelled (word_of value) (numbers_of value) (grammar.one_word value) are.1, numbers_of_digits-decimals (numbers_of value) are.1) (grammar.means value in_range)

  spelled_from_fields : IsGrammar word_of numbers_of IsInRange meaning most → (text : List ℕ) (fields : List (List ℕ)) (value : A) → join_with_byte 32 fields ≡ text
      → meaning_of_fields meaning fields ≡ Some value → (text ≡ spelled (word_of value) (numbers_of value)) × IsInRange value
  spelled_from_fields grammar text [] value joins e = absurd (cc)
  spelled_from_fields grammar text (word ∷ fields) value joins e =
      let found = bind_some (meaning word) (numbers_of_digits fields) value e in
      let spells = grammar.spells word found.0 value found.2 in
      (sym joins ∙ joined word fields found.0 found.1 ∙ spelled_same word found.0 value spells, spells.in_range)

  pub spelled_from_meaning : IsGrammar word_of numbers_of IsInRange meaning most → (text : List ℕ) (value : A) → meaning_of_text meaning text ≡ Some value
      → (text ≡ spelled (word_of value) (numbers_of value)) × IsInRange value
  spelled_from_meaning grammar text value e = spelled_from_fields grammar text (slice_split (λ b. b == 32) text) value (join_with_byte-slice_split 32 text) e

  -- a text means what the word before its first space means with the numbers that the rest spells
  pub meaning_from_parts : IsGrammar word_of numbers_of IsInRange meaning most → (text ns : List ℕ) (r : Option A) → AllByRecursion (λ n. n < 2 ^ 32) ns → from_space text ≡ spelled_numbers ns
      → r ≡ meaning (before_space text) ns → r ≡ meaning_of_text meaning text
  meaning_from_parts grammar text ns (Some value) small rest is =
      let spells = grammar.spells (before_space text) ns value (sym is) in
      sym (meaning_of_spelled grammar text value (cut_joins text ∙ rw (spells.word_is, rest, spells.numbers_are) refl) spells.in_range)
  meaning_from_parts grammar text ns None small rest is = elim (meaning_of_text meaning text) as (λ o. meaning_of_text meaning text ≡ o → None ≡ o) [
    | None ↦ λ e. refl
    | Some value ↦ λ e.
        let (written, in_range) = spelled_from_meaning grammar text value e in
        let word : before_space text ≡ word_of value = ap before_space written ∙ before_space-spelled (word_of value) (numbers_of value) (grammar.one_word value) in
        let numbers : from_space text ≡ spelled_numbers (numbers_of value) = ap from_space written ∙ from_space-spelled (word_of value) (numbers_of value) (grammar.one_word value) in
        let are = grammar.few_numbers value in_range in
        let same : ns ≡ numbers_of value = spelled_injective ns (numbers_of value) small are.1 (sym rest ∙ numbers) in
        is ∙ rw (word, same) (grammar.means value in_range)
  ] refl

  -- if the rest spells no numbers, the text has no meaning
  pub no_meaning_from_rest : IsGrammar word_of numbers_of IsInRange meaning most → (text : List ℕ) → ((ns : List ℕ) → AreNumbers most ns → from_space text ≢ spelled_numbers ns)
      → None ≡ meaning_of_text meaning text
  no_meaning_from_rest grammar text none = elim (meaning_of_text meaning text) as (λ o. meaning_of_text meaning text ≡ o → None ≡ o) [
    | None ↦ λ e. refl
    | Some value ↦ λ e.
        let (written, in_range) = spelled_from_meaning grammar text value e in
        absurd (none (numbers_of value) (grammar.few_numbers value in_range) (ap from_space written ∙ from_space-spelled (word_of value) (numbers_of value) (grammar.one_word value)))
  ] refl
