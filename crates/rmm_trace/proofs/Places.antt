-- Lemmas on lists of texts: a search finds the first text that passes a test, and a lookup past the end of a list gives
-- the empty text.
use Rattle.std.proofs.Common.{◌≡◌, ℕ, zero, suc, ◌+◌, ◌<◌, ◌≤◌, List, [], ◌∷◌, length, map, get_or, drop, Bool, true, cond, Option, Some, None, Bor, refl, sym, ap, ◌∙◌, arith, drop-cons}
use Rattle.std.proofs.Math.ListN.{drop_of_length-le}
use Rattle.std.specs.List.{position_from}
use Rattle.rmm_trace.specs.Names.{nth_text}

-- the texts that references point to
abbrev pub seen : List (Bor (List ℕ)) → List (List ℕ)
seen ts = map (λ (t : Bor (List ℕ)). t.now) ts

pub place_here : (p : List ℕ → Bool) (ts : List (Bor (List ℕ))) (i : ℕ) (d : Bor (List ℕ)) (all : Option ℕ) → i < length ts → p ((get_or ts i d).now) ≡ true
    → position_from p i (seen (drop i ts)) ≡ all → Some i ≡ all
place_here p ts i d all within test so_far =
    let is = drop-cons ts i d within in
    sym (ap (λ xs. position_from p i (seen xs)) is ∙ ap (λ (b : Bool). cond b (Some i) (position_from p (i + 1) (seen (drop (suc i) ts)))) test) ∙ so_far

pub place_none : (p : List ℕ → Bool) (ts : List (Bor (List ℕ))) (i : ℕ) (all : Option ℕ) → length ts ≤ i → position_from p i (seen (drop i ts)) ≡ all → None ≡ all
place_none p ts i all past so_far = sym (ap (λ xs. position_from p i (seen xs)) (drop_of_length-le ts past)) ∙ so_far

pub text_here : (ts : List (Bor (List ℕ))) (i : ℕ) (d : Bor (List ℕ)) → i < length ts → (get_or ts i d).now ≡ nth_text i (seen ts)
text_here [] i d within = absurd (omega arith)
text_here (t ∷ ts) zero d within = refl
text_here (t ∷ ts) (suc i) d within = text_here ts i d (omega arith)

pub no_text_here : (ts : List (Bor (List ℕ))) (i : ℕ) → length ts ≤ i → [] ≡ nth_text i (seen ts)
no_text_here [] i past = refl
no_text_here (t ∷ ts) zero past = absurd (omega arith)
no_text_here (t ∷ ts) (suc i) past = no_text_here ts i (omega arith)
