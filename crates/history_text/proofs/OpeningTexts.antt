-- Proofs that the text of a history's first line determines the numbers in the line.
use Rattle.std.proofs.Common.{◌≡◌, List, ◌++◌, codes, refl, sym, ap, ◌∙◌, IsUtf8, ℕ, subst}
use Rattle.std.proofs.lemmas.List.{append_cancel_left}
use Rattle.std.proofs.lemmas.Str.{IsUtf8-from_ascii}
use Rattle.decimal_text.specs.Numbers.{spelled_numbers, AreNumbers}
use Rattle.decimal_text.specs.Ranges.{AreAtMost}
use Rattle.decimal_text.proofs.Spelled.{IsAscii-spelled, spelled_injective}
use Rattle.decimal_text.proofs.UpTo.{few_from_test}
use Rattle.history_text.specs.declared.opening.Opening.{Opening}
use Rattle.history_text.specs.Histories.{opening_numbers, opening_maxima, HasEnough, IsSize, IsOpeningText}

pub five_numbers : (o : Opening) → AreAtMost (opening_numbers o) opening_maxima → AreNumbers 5 (opening_numbers o)
five_numbers o h = few_from_test 5 (opening_numbers o) opening_maxima h refl

pub IsUtf8-opening : (o : Opening) → AreAtMost (opening_numbers o) opening_maxima → IsUtf8 (spelled_numbers (opening_numbers o))
IsUtf8-opening o h = IsUtf8-from_ascii (spelled_numbers (opening_numbers o)) (IsAscii-spelled (opening_numbers o) (five_numbers o h).1)

-- ---- the text after the words

pub same_rest : (text rest : List ℕ) (o : Opening) → text ≡ codes "history 1" ++ rest → IsOpeningText text o → rest ≡ spelled_numbers (opening_numbers o)
same_rest text rest o parts is = append_cancel_left (codes "history 1") rest (spelled_numbers (opening_numbers o)) (sym parts ∙ is.is_written)

pub is_opening : (text rest : List ℕ) (o : Opening) → text ≡ codes "history 1" ++ rest → rest ≡ spelled_numbers (opening_numbers o) → IsSize o → IsOpeningText text o
is_opening text rest o parts spelled size = record { is_written = parts ∙ ap (λ t. codes "history 1" ++ t) spelled; size = size }

-- if the text of an `Opening` spells up to five numbers below 2^32 after `history 1`, they are the numbers of the
-- `Opening`
pub same_numbers : (text rest ns : List ℕ) (o : Opening) → AreNumbers 5 ns → text ≡ codes "history 1" ++ rest → rest ≡ spelled_numbers ns → IsOpeningText text o → ns ≡ opening_numbers o
same_numbers text rest ns o are parts spelled is =
    spelled_injective ns (opening_numbers o) are.1 (five_numbers o is.size.at_most).1 (sym spelled ∙ same_rest text rest o parts is)

-- two values of `Opening` with equal numbers are equal
pub same_opening : (a b : Opening) → opening_numbers a ≡ opening_numbers b → a ≡ b
same_opening a b same =
    let pages : a.pages ≡ b.pages = cc in
    let vmids : a.vmids ≡ b.vmids = cc in
    let aux : a.aux ≡ b.aux = cc in
    let history : a.history ≡ b.history = cc in
    let builds : a.builds ≡ b.builds = cc in
    let whole : record { pages = a.pages; vmids = a.vmids; aux = a.aux; history = a.history; builds = a.builds } ≡ b =
    rw (pages, vmids, aux, history, builds) refl in
    whole

-- if the text of an `Opening` spells the numbers of `found`, all below 2^32, each number of `found` is at least its
-- minimum
pub enough_from_text : (text rest ns : List ℕ) (found o : Opening) → AreNumbers 5 ns → text ≡ codes "history 1" ++ rest → rest ≡ spelled_numbers ns → opening_numbers found ≡ ns
    → IsOpeningText text o → HasEnough found
enough_from_text text rest ns found o are parts spelled numbers is =
    subst HasEnough (sym (same_opening found o (numbers ∙ same_numbers text rest ns o are parts spelled is))) is.size.enough
