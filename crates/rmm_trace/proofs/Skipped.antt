-- Proofs that the search for a name that begins with `(` or `R` may start at the first name in the table with the same
-- first byte.
use Rattle.std.proofs.Common.{◌≡◌, ℕ, zero, suc, ◌+◌, List, [], ◌∷◌, take, drop, Bool, true, false, not, ◌&&◌, cond, eqb, nat_eq, Some, refl, sym, ap, ◌∙◌, arith}
use Rattle.std.proofs.lemmas.Bool.{and_parts, not-true, eqb-true, eqb-false, ne_eqb}
use Rattle.std.specs.List.{list_all, position_from, starts_with}
use Rattle.std.specs.Str.{bytes_eq}
use Rattle.rmm_trace.specs.Names.{names, commands, other_questions, steps_of_a_guest, settings_and_their_values, fields_of_parameter_pages, words_of_results, states, exit_reasons, outputs, results_of_steps, checks}

abbrev begins_with : ℕ → List ℕ → Bool
begins_with b text = starts_with nat_eq text (b ∷ [])

-- a text that begins with a given byte differs from a name that does not
apart : (b : ℕ) (text name : List ℕ) → begins_with b text ≡ true → begins_with b name ≡ false → bytes_eq text name ≡ false
apart b [] name is not_so = absurd (cc)
apart b (x ∷ xs) [] is not_so = refl
apart b (x ∷ xs) (y ∷ ys) is not_so =
    let same : b ≡ x = eqb-true b x (and_parts (eqb b x) true is).0 in
    let other : eqb x y ≡ false = ne_eqb x y (λ e. eqb-false b y (first_false (eqb b y) not_so) (same ∙ e)) in
    rw other refl
  where
    first_false : (v : Bool) → (v && true) ≡ false → v ≡ false
    first_false true e = e
    first_false false e = refl

-- the search for a text that begins with a given byte can skip the first `k` names, if none of them begins with that
-- byte
pub skipped : (b : ℕ) (text : List ℕ) (k i : ℕ) (ns : List (List ℕ)) → begins_with b text ≡ true → list_all (λ n. not (begins_with b n)) (take k ns) ≡ true
    → position_from (bytes_eq text) i ns ≡ position_from (bytes_eq text) (i + k) (drop k ns)
skipped b text zero i ns is all = let same : i ≡ i + 0 = omega arith in ap (λ j. position_from (bytes_eq text) j ns) same
skipped b text (suc k) i [] is all = refl
skipped b text (suc k) i (n ∷ ns) is all =
    let parts = and_parts (not (begins_with b n)) (list_all (λ m. not (begins_with b m)) (take k ns)) all in
    let first : bytes_eq text n ≡ false = apart b text n is (not-true (begins_with b n) parts.0) in
    let same : i + 1 + k ≡ i + suc k = omega arith in
    ap (λ (t : Bool). cond t (Some i) (position_from (bytes_eq text) (i + 1) ns)) first ∙ skipped b text k (i + 1) ns is parts.1
    ∙ ap (λ j. position_from (bytes_eq text) j (drop k ns)) same

-- in the table of names, no name before the first check begins with `(`
no_bracket : list_all (λ n. not (begins_with 40 n)) (take 180 names) ≡ true
unfolding names commands other_questions steps_of_a_guest settings_and_their_values fields_of_parameter_pages words_of_results states exit_reasons outputs results_of_steps checks
no_bracket = refl

-- in the table of names, no name before `RMI_SUCCESS` begins with `R`
no_letter : list_all (λ n. not (begins_with 82 n)) (take 108 names) ≡ true
unfolding names commands other_questions steps_of_a_guest settings_and_their_values fields_of_parameter_pages words_of_results states exit_reasons outputs results_of_steps checks
no_letter = refl

pub from_checks : (text : List ℕ) → begins_with 40 text ≡ true → position_from (bytes_eq text) 180 (drop 180 names) ≡ position_from (bytes_eq text) 0 names
from_checks text is = sym (skipped 40 text 180 0 names is no_bracket)

pub from_results : (text : List ℕ) → begins_with 82 text ≡ true → position_from (bytes_eq text) 108 (drop 108 names) ≡ position_from (bytes_eq text) 0 names
from_results text is = sym (skipped 82 text 108 0 names is no_letter)
