-- Proofs about lists to which one more sighting is added; a sighting is an outcome with a schedule that has it. The
-- sighting of a build is added if and only if the build has the given property. The sighting of a step outcome comes
-- after those of earlier outcomes.
use Rattle.std.proofs.Common.{◌≡◌, ℕ, ◌+◌, ◌<◌, Bool, true, false, if◌then◌else◌, List, [], ◌∷◌, ◌++◌, length, get_or, map, take, ap, sym, ◌∙◌, append_assoc, append-nil, arith}
use Rattle.std.specs.Prelude.{filter}
use Rattle.std.specs.List.{range_with_len}
use Rattle.std.proofs.lemmas.List.{map-append, take_more}
use Rattle.std.proofs.lemmas.List.Elements.{filter-append}
use Rattle.granule_addr.proofs.Runs.{range_with_len_more}
use Rattle.view_program.specs.Tally.{Sighting}
use Rattle.view_program.specs.Totals.{sighting_in}
use Rattle.view_program.specs.declared.schedules.choice.Choice.{Choice}
use Rattle.plan_states.specs.declared.step_end.EndOfStep.{EndOfStep}

abbrev pub those : (ℕ → Bool) → List Choice → ℕ → List (Sighting ℕ)
those p choices n = map (sighting_in choices) (filter p (range_with_len 0 n))

those_more : (p : ℕ → Bool) (choices : List Choice) (n : ℕ) → those p choices (n + 1) ≡ those p choices n ++ map (sighting_in choices) (if p n then n ∷ [] else [])
those_more p choices n =
    ap (λ ns. map (sighting_in choices) (filter p ns)) (range_with_len_more 0 n n (omega arith))
    ∙ ap (map (sighting_in choices)) (filter-append p (range_with_len 0 n) (n ∷ []))
    ∙ map-append (sighting_in choices) (filter p (range_with_len 0 n)) (filter p (n ∷ []))

pub those_with : (p : ℕ → Bool) (choices : List Choice) (n : ℕ) (seen : List (Sighting ℕ)) → p n ≡ true → (seen ++ those p choices n) ++ sighting_in choices n ∷ [] ≡ seen ++ those p choices (n + 1)
those_with p choices n seen is =
    append_assoc seen (those p choices n) (sighting_in choices n ∷ [])
    ∙ ap (λ rest. seen ++ rest) (sym (those_more p choices n ∙ ap (λ b. those p choices n ++ map (sighting_in choices) (if b then n ∷ [] else [])) is))

pub those_without : (p : ℕ → Bool) (choices : List Choice) (n : ℕ) (seen : List (Sighting ℕ)) → p n ≡ false → seen ++ those p choices n ≡ seen ++ those p choices (n + 1)
those_without p choices n seen is =
    ap (λ rest. seen ++ rest) (sym (those_more p choices n ∙ ap (λ b. those p choices n ++ map (sighting_in choices) (if b then n ∷ [] else [])) is ∙ append-nil (those p choices n)))

-- the sightings of the first `place` outcomes, followed by a sighting of the next outcome, are the sightings of the
-- first `place + 1`
pub seen_more : (choices : List Choice) (seen : List (Sighting EndOfStep)) (ends : List EndOfStep) (place : ℕ) (here : EndOfStep) → place < length ends
    → here ≡ get_or ends place here
    → (seen ++ map (sighting_in choices) (take place ends)) ++ sighting_in choices here ∷ [] ≡ seen ++ map (sighting_in choices) (take (place + 1) ends)
seen_more choices seen ends place here inside is =
    append_assoc seen (map (sighting_in choices) (take place ends)) (sighting_in choices here ∷ [])
    ∙ ap (λ rest. seen ++ rest)
    (sym (ap (map (sighting_in choices)) (take_more ends place here inside ∙ ap (λ it. take place ends ++ it ∷ []) (sym is))
    ∙ map-append (sighting_in choices) (take place ends) (here ∷ [])))
