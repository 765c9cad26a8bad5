-- Proofs that the text of a name or number in a trace is read back unchanged, and has no separator in it.
use Rattle.std.proofs.Common.{◌≡◌, ℕ, zero, suc, ◌+◌, ◌<◌, List, [], ◌∷◌, length, Bool, true, false, eqb, ◌&&◌, Option, Some, None, refl, ap, ◌∙◌, arith}
use Rattle.std.proofs.Common.{eqb-true, ltb, ltb-true}
use Rattle.std.proofs.lemmas.Bool.{and_parts}
use Rattle.std.specs.List.{list_all}
use Rattle.std.specs.Fmt.{digit_glyph, digits}
use Rattle.rmm_trace.specs.declared.word.Atom.{Atom}
use Rattle.rmm_trace.specs.declared.word.Atom.TheVariants.{Name, Decimal, Hexadecimal}
use Rattle.rmm_trace.specs.Names.{names, nth_text}
use Rattle.rmm_trace.specs.Names.{commands, other_questions, steps_of_a_guest, settings_and_their_values, fields_of_parameter_pages, words_of_results, states, exit_reasons, outputs, results_of_steps, checks}
use Rattle.rmm_trace.specs.Numbers.{is_plain}
use Rattle.rmm_trace.specs.Words.{atom_text, atom_in, IsAtom}
use Rattle.rmm_trace.proofs.Cuts.{lacks}
use Rattle.rmm_trace.proofs.Digits.{glyph_not_low, glyph_not_sign, is_plain-digits, some-plain, plain_value-digits, digits_unmarked, not_hexadecimal}

-- ---- the names, by tests that compute

-- there is an atom, and it is the name with this index
is_name_at : ℕ → Option Atom → Bool
is_name_at place (Some (Name found)) = eqb found place
is_name_at place _ = false

are_read : ℕ → List (List ℕ) → Bool
are_read place [] = true
are_read place (text ∷ texts) = is_name_at place (atom_in text) && are_read (place + 1) texts

names_are_read : are_read 0 names ≡ true
unfolding names commands other_questions steps_of_a_guest settings_and_their_values fields_of_parameter_pages words_of_results states exit_reasons outputs results_of_steps checks is_name_at are_read
names_are_read = refl

-- no name and no number contains the byte
pub record IsMark (mark : ℕ) : Type 0 where
  pub glyphs : (d : ℕ) → eqb (digit_glyph false d) mark ≡ false
  pub zero_apart : eqb 48 mark ≡ false
  pub x_apart : eqb 120 mark ≡ false
  pub names_lack : list_all (lacks mark) names ≡ true

pub is_return : IsMark 13
unfolding names commands other_questions steps_of_a_guest settings_and_their_values fields_of_parameter_pages words_of_results states exit_reasons outputs results_of_steps checks
is_return = record { glyphs = λ d. glyph_not_low 13 d (omega arith); zero_apart = refl; x_apart = refl; names_lack = refl }

pub is_space : IsMark 32
unfolding names commands other_questions steps_of_a_guest settings_and_their_values fields_of_parameter_pages words_of_results states exit_reasons outputs results_of_steps checks
is_space = record { glyphs = λ d. glyph_not_low 32 d (omega arith); zero_apart = refl; x_apart = refl; names_lack = refl }

pub is_hash : IsMark 35
unfolding names commands other_questions steps_of_a_guest settings_and_their_values fields_of_parameter_pages words_of_results states exit_reasons outputs results_of_steps checks
is_hash = record { glyphs = λ d. glyph_not_low 35 d (omega arith); zero_apart = refl; x_apart = refl; names_lack = refl }

pub is_plus : IsMark 43
unfolding names commands other_questions steps_of_a_guest settings_and_their_values fields_of_parameter_pages words_of_results states exit_reasons outputs results_of_steps checks
is_plus = record { glyphs = λ d. glyph_not_low 43 d (omega arith); zero_apart = refl; x_apart = refl; names_lack = refl }

pub is_comma : IsMark 44
unfolding names commands other_questions steps_of_a_guest settings_and_their_values fields_of_parameter_pages words_of_results states exit_reasons outputs results_of_steps checks
is_comma = record { glyphs = λ d. glyph_not_low 44 d (omega arith); zero_apart = refl; x_apart = refl; names_lack = refl }

pub is_slash : IsMark 47
unfolding names commands other_questions steps_of_a_guest settings_and_their_values fields_of_parameter_pages words_of_results states exit_reasons outputs results_of_steps checks
is_slash = record { glyphs = λ d. glyph_not_low 47 d (omega arith); zero_apart = refl; x_apart = refl; names_lack = refl }

pub is_sign : IsMark 61
unfolding names commands other_questions steps_of_a_guest settings_and_their_values fields_of_parameter_pages words_of_results states exit_reasons outputs results_of_steps checks
is_sign = record { glyphs = λ d. glyph_not_sign d; zero_apart = refl; x_apart = refl; names_lack = refl }

names_are_some : list_all (λ t. ltb 0 (length t)) names ≡ true
unfolding names commands other_questions steps_of_a_guest settings_and_their_values fields_of_parameter_pages words_of_results states exit_reasons outputs results_of_steps checks
names_are_some = refl

-- ---- the name at a place

found_name : (place : ℕ) (o : Option Atom) → is_name_at place o ≡ true → o ≡ Some (Name place)
unfolding is_name_at
found_name place (Some (Name found)) h = ap (λ p. Some (Name p)) (eqb-true found place h)
found_name place (Some (Decimal n)) h = absurd (cc)
found_name place (Some (Hexadecimal n)) h = absurd (cc)
found_name place None h = absurd (cc)

read_at : (first : ℕ) (texts : List (List ℕ)) (place : ℕ) → are_read first texts ≡ true → place < length texts → atom_in (nth_text place texts) ≡ Some (Name (first + place))
unfolding are_read
read_at first [] place h within = absurd (omega arith)
read_at first (text ∷ texts) zero h within =
    let parts = and_parts (is_name_at first (atom_in text)) (are_read (first + 1) texts) h in
    found_name first (atom_in text) parts.0 ∙ ap (λ p. Some (Name p)) {x = first} {y = first + 0} (omega arith)
read_at first (text ∷ texts) (suc place) h within =
    let parts = and_parts (is_name_at first (atom_in text)) (are_read (first + 1) texts) h in
    read_at (first + 1) texts place parts.1 (omega arith) ∙ ap (λ p. Some (Name p)) {x = first + 1 + place} {y = first + suc place} (omega arith)

nth_lacks : (mark : ℕ) (texts : List (List ℕ)) (place : ℕ) → list_all (lacks mark) texts ≡ true → lacks mark (nth_text place texts) ≡ true
nth_lacks mark [] place h = refl
nth_lacks mark (text ∷ texts) zero h = (and_parts (lacks mark text) (list_all (lacks mark) texts) h).0
nth_lacks mark (text ∷ texts) (suc place) h = nth_lacks mark texts place (and_parts (lacks mark text) (list_all (lacks mark) texts) h).1

-- ---- atoms

-- the text of a name or a number lacks each byte for which `IsMark` holds
pub atom_lacks : (mark : ℕ) → IsMark mark → (a : Atom) → lacks mark (atom_text a) ≡ true
atom_lacks mark is (Name place) = nth_lacks mark names place is.names_lack
atom_lacks mark is (Decimal n) = digits_unmarked 10 (omega arith) (omega arith) mark n is.glyphs
atom_lacks mark is (Hexadecimal n) =
    let zero_apart : eqb 48 mark ≡ false = is.zero_apart in
    let x_apart : eqb 120 mark ≡ false = is.x_apart in
    rw (zero_apart, x_apart) (digits_unmarked 16 (omega arith) (omega arith) mark n is.glyphs)

plain_zero_10 : is_plain (digits 10 false 0) ≡ true
unfolding digits
plain_zero_10 = refl

plain_zero_16 : is_plain (digits 16 false 0) ≡ true
unfolding digits
plain_zero_16 = refl

pub atom_back : (a : Atom) → IsAtom a → atom_in (atom_text a) ≡ Some a
atom_back (Name place) is = read_at 0 names place names_are_read is ∙ ap (λ p. Some (Name p)) {x = 0 + place} {y = place} (omega arith)
atom_back (Decimal n) is =
    let plain = is_plain-digits 10 (omega arith) (omega arith) plain_zero_10 n is in
    let apart = not_hexadecimal (digits 10 false n) plain in
    let value = plain_value-digits 10 (omega arith) (omega arith) plain_zero_10 n is in
    rw (apart, value) refl
atom_back (Hexadecimal n) is =
    let value = plain_value-digits 16 (omega arith) (omega arith) plain_zero_16 n is in
    rw value refl

-- if no text of a list is empty, the text at an index of the list is not empty
nth_some : (texts : List (List ℕ)) (place : ℕ) → list_all (λ t. ltb 0 (length t)) texts ≡ true → place < length texts → 0 < length (nth_text place texts)
nth_some [] place h within = absurd (omega arith)
nth_some (text ∷ texts) zero h within = ltb-true 0 (length text) (and_parts (ltb 0 (length text)) (list_all (λ t. ltb 0 (length t)) texts) h).0
nth_some (text ∷ texts) (suc place) h within = nth_some texts place (and_parts (ltb 0 (length text)) (list_all (λ t. ltb 0 (length t)) texts) h).1 (omega arith)

pub atom_some : (a : Atom) → IsAtom a → 0 < length (atom_text a)
atom_some (Name place) is = nth_some names place names_are_some is
atom_some (Decimal n) is = some-plain (digits 10 false n) (is_plain-digits 10 (omega arith) (omega arith) plain_zero_10 n is)
atom_some (Hexadecimal n) is = omega arith
