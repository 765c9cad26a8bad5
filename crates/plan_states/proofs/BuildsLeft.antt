-- Proofs that the check of a state's edges succeeds only if there is exactly one edge for each build with a step left,
-- from the lowest build on.
use Rattle.std.proofs.Common.{◌≡◌, ℕ, ◌+◌, ◌<◌, ◌≤◌, ◌==◌, Bool, true, false, cond, List, [], ◌∷◌, ◌++◌, map, length, get_or, take, Option, Some, None, refl, sym, ap, ◌∙◌, append-nil, arith, eqb-true}
use Rattle.std.specs.Prelude.{filter, slice_get}
use Rattle.std.specs.Bool.{OnTrue}
use Rattle.std.proofs.lemmas.Bool.{OnTrue_from}
use Rattle.std.proofs.lemmas.List.{map-append, take_all, take_more}
use Rattle.std.proofs.lemmas.List.Elements.{filter_more}
use Rattle.std.proofs.lemmas.Option.{slice_get_within, get_or_from_slice_get}
use Rattle.schedule_graph.specs.declared.graph.Edge.{Edge}
use Rattle.plan_states.specs.Whole.{is_of_build}
use Rattle.plan_states.specs.declared.edges.Label.{Label}

abbrev pub builds_in : List (Edge Label) → List ℕ
builds_in edges = map (λ edge. edge.label.build) edges

pub edge_inside : (build at : ℕ) (edges : List (Edge Label)) → is_of_build build (slice_get edges at) ≡ true → at < length edges
edge_inside build at edges is = there (slice_get edges at) refl is
  where
    there : (o : Option (Edge Label)) → slice_get edges at ≡ o → is_of_build build o ≡ true → at < length edges
    there None none of = absurd cc
    there (Some edge) some of = slice_get_within edges at edge some

-- the edges of the first builds with a step left, followed by the next such build's edge, are the edges of all these
-- builds
pub left_more :
    (left : ℕ → Bool) (builds : List ℕ) (i : ℕ) (edges : List (Edge Label)) (at : ℕ)
    → i < length builds → left (get_or builds i 0) ≡ true → is_of_build (get_or builds i 0) (slice_get edges at) ≡ true
    → builds_in (take at edges) ≡ filter left (take i builds) → builds_in (take (at + 1) edges) ≡ filter left (take (i + 1) builds)
left_more left builds i edges at less holds is same = there (slice_get edges at) refl is
  where
    there : (o : Option (Edge Label)) → slice_get edges at ≡ o → is_of_build (get_or builds i 0) o ≡ true
        → builds_in (take (at + 1) edges) ≡ filter left (take (i + 1) builds)
    there None none of = absurd cc
    there (Some edge) some of =
        let build : (get_or edges at edge).label.build ≡ get_or builds i 0 =
        ap (λ (e : Edge Label). e.label.build) (get_or_from_slice_get edges at edge edge some) ∙ eqb-true edge.label.build (get_or builds i 0) of in
        ap builds_in (take_more edges at edge (slice_get_within edges at edge some))
        ∙ map-append (λ (e : Edge Label). e.label.build) (take at edges) (get_or edges at edge ∷ [])
        ∙ (λ j. same j ++ build j ∷ [])
        ∙ sym (filter_more left builds i 0 less ∙ ap (λ (t : Bool). filter left (take i builds) ++ cond t (get_or builds i 0 ∷ []) []) holds)

-- one more build without a step left adds nothing to the list of builds with a step left
pub over_more :
    (left : ℕ → Bool) (builds : List ℕ) (i : ℕ) (these : List ℕ) → i < length builds → left (get_or builds i 0) ≡ false
    → these ≡ filter left (take i builds) → these ≡ filter left (take (i + 1) builds)
over_more left builds i these less fails same =
    same
    ∙ sym (filter_more left builds i 0 less ∙ ap (λ (t : Bool). filter left (take i builds) ++ cond t (get_or builds i 0 ∷ []) []) fails
    ∙ append-nil (filter left (take i builds)))

pub all_left :
    (left : ℕ → Bool) (builds : List ℕ) (i : ℕ) (edges : List (Edge Label)) (at : ℕ) → length builds ≤ i
    → builds_in (take at edges) ≡ filter left (take i builds) → OnTrue (at == length edges) (builds_in edges ≡ filter left builds)
all_left left builds i edges at done same = OnTrue_from (at == length edges) (builds_in edges ≡ filter left builds) (λ t.
    let end = eqb-true at (length edges) t in
    sym (ap builds_in (take_all at edges (omega arith))) ∙ same ∙ ap (filter left) (take_all i builds done))
