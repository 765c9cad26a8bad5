-- Lemmas that an index within a list finds an element, that a search finds the first match, and that a lookup past the
-- end finds nothing.
use Rattle.std.proofs.Common.{◌≡◌, ℕ, zero, suc, ◌+◌, ◌<◌, ◌≤◌, List, [], ◌∷◌, length, get_or, drop, Bool, true, cond, Some, None, refl, sym, ap, ◌∙◌, arith, drop-cons, ◌==◌, if◌then◌else◌}
use Rattle.std.proofs.Math.ListN.{drop_of_length-le}
use Rattle.std.specs.List.{position_from}
use Rattle.rmm_trace.specs.declared.word.TraceWord.{TraceWord}
use Rattle.rmm_trace.specs.Compare.{atom_number}
use Rattle.rmm_answers.specs.Naming.{written_number}
use Rattle.rmm_answers.specs.Page.{offset_in}

-- if a list has an item at an index, `get_or` gives the same item for any default
pub row_here : {X : Type 0} (rows : List X) (i : ℕ) (d e : X) → i < length rows → get_or rows i d ≡ get_or rows i e
row_here [] i d e within = absurd (omega arith)
row_here (x ∷ rows) zero d e within = refl
row_here (x ∷ rows) (suc i) d e within = row_here rows i d e (omega arith)

pub no_row_here : {X : Type 0} (rows : List X) (i : ℕ) (d : X) → length rows ≤ i → d ≡ get_or rows i d
no_row_here [] i d past = refl
no_row_here (x ∷ rows) zero d past = absurd (omega arith)
no_row_here (x ∷ rows) (suc i) d past = no_row_here rows i d (omega arith)

-- ---- places

pub place_here : (p : ℕ → Bool) (xs : List ℕ) (i d : ℕ) → i < length xs → p (get_or xs i d) ≡ true
    → position_from p i (drop i xs) ≡ position_from p 0 xs → Some i ≡ position_from p 0 xs
place_here p xs i d within test so_far =
    sym (ap (λ ys. position_from p i ys) (drop-cons xs i d within) ∙ ap (λ (b : Bool). cond b (Some i) (position_from p (i + 1) (drop (suc i) xs))) test) ∙ so_far

pub no_place_here : (p : ℕ → Bool) (xs : List ℕ) (i : ℕ) → length xs ≤ i → position_from p i (drop i xs) ≡ position_from p 0 xs → None ≡ position_from p 0 xs
no_place_here p xs i past so_far = sym (ap (λ ys. position_from p i ys) (drop_of_length-le xs past)) ∙ so_far

-- ---- fields

pub offset_here : (name : ℕ) (fields : List (ℕ × ℕ)) (i : ℕ) (d : ℕ × ℕ) → i < length fields → (get_or fields i d).0 == name ≡ true
    → offset_in name (drop i fields) ≡ offset_in name fields → (get_or fields i d).1 ≡ offset_in name fields
offset_here name fields i d within test so_far =
    sym (ap (offset_in name) (drop-cons fields i d within)
    ∙ ap (λ (b : Bool). if b then (get_or fields i d).1 else offset_in name (drop (suc i) fields)) test) ∙ so_far

-- ---- registers that are written

pub number_here : (ws : List TraceWord) (k : ℕ) (d : TraceWord) → k < length ws → atom_number (get_or ws k d).value ≡ written_number ws k
number_here [] k d within = absurd (omega arith)
number_here (w ∷ ws) zero d within = refl
number_here (w ∷ ws) (suc k) d within = number_here ws k d (omega arith)

pub no_number : (ws : List TraceWord) (k : ℕ) → length ws ≤ k → None ≡ written_number ws k
no_number [] k past = refl
no_number (w ∷ ws) zero past = absurd (omega arith)
no_number (w ∷ ws) (suc k) past = no_number ws k (omega arith)
