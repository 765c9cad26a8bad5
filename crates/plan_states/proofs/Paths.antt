-- Lemmas on the first edge and the rest of each path from a state, and on the ascending order of the schedules of these
-- paths.
use Rattle.std.proofs.Common.{◌≡◌, ℕ, ◌<◌, ◌==◌, ◌⊎◌, inl, inr, true, false, List, [], ◌∷◌, ◌++◌, map, Some, refl, sym, ap, subst, ◌∙◌, arith, ne_eqb, eq-eqb, lt-ltb}
use Rattle.std.specs.Prelude.{nat_lt}
use Rattle.std.specs.List.{find, flat_map}
use Rattle.std.proofs.lemmas.Bool.{cond-true, cond-false}
use Rattle.std.proofs.lemmas.List.{map-append}
use Rattle.schedule_graph.specs.Paths.{Path, paths_by_edges}
use Rattle.schedule_graph.specs.declared.graph.Edge.{Edge}
use Rattle.plan_states.specs.Schedules.{by_builds}
use Rattle.plan_states.specs.Tallies.{builds_of_path, is_before}
use Rattle.plan_states.specs.declared.edges.Label.{Label}
use Rattle.plan_states.proofs.Members.{IsIn, in_map, of_map, in_flat_map, of_flat_map, Pairs, pairs_append, pairs_map, pairs_weaker}

-- ---- the order of schedules

pub before-self : (schedule : List ℕ) → is_before schedule schedule ≡ false
before-self [] = refl
before-self (build ∷ schedule) =
    cond-true (build == build) (is_before schedule schedule) (nat_lt build build) (eq-eqb build build refl) ∙ before-self schedule

-- the schedule of the first path comes before that of the second
abbrev pub Rises : Path Label → Path Label → Type 0
Rises one other = is_before (builds_of_path one) (builds_of_path other) ≡ true

rises_on : (edge : Edge Label) (one other : Path Label) → Rises one other → Rises (edge ∷ one) (edge ∷ other)
rises_on edge one other rises =
    cond-true (edge.label.build == edge.label.build) (is_before (builds_of_path one) (builds_of_path other)) (nat_lt edge.label.build edge.label.build)
    (eq-eqb edge.label.build edge.label.build refl) ∙ rises

rises_here : (edge higher : Edge Label) (one other : Path Label) → edge.label.build < higher.label.build → Rises (edge ∷ one) (higher ∷ other)
rises_here edge higher one other less =
    cond-false (edge.label.build == higher.label.build) (is_before (builds_of_path one) (builds_of_path other)) (nat_lt edge.label.build higher.label.build)
    (ne_eqb edge.label.build higher.label.build (λ same. omega arith))
    ∙ lt-ltb edge.label.build higher.label.build less

builds_on : (edge : Edge Label) (ps : List (Path Label))
    → map builds_of_path (map (λ (path : Path Label). edge ∷ path) ps) ≡ map (λ (schedule : List ℕ). edge.label.build ∷ schedule) (map builds_of_path ps)
builds_on edge [] = refl
builds_on edge (path ∷ ps) = λ i. (edge.label.build ∷ builds_of_path path) ∷ builds_on edge ps i

-- if each edge of a list has a higher build than the edges before it, a search for the build of an edge finds that edge
pub edge_found : (edges : List (Edge Label)) (edge : Edge Label) → Pairs (λ (one other : Edge Label). one.label.build < other.label.build) edges
    → IsIn edge edges → find (λ (e : Edge Label). e.label.build == edge.label.build) edges ≡ Some edge
edge_found [] edge low is = absurd is
edge_found (first ∷ edges) edge low (inl same) =
    cond-true (first.label.build == edge.label.build) (Some first) (find (λ (e : Edge Label). e.label.build == edge.label.build) edges)
    (eq-eqb first.label.build edge.label.build (ap (λ (e : Edge Label). e.label.build) same)) ∙ ap (λ (e : Edge Label). Some e) same
edge_found (first ∷ edges) edge low (inr later) =
    let less = low.0 edge later in
    cond-false (first.label.build == edge.label.build) (Some first) (find (λ (e : Edge Label). e.label.build == edge.label.build) edges)
    (ne_eqb first.label.build edge.label.build (λ same. omega arith)) ∙ edge_found edges edge low.1 later

-- ---- paths by edges

-- A path is an edge, and then a path from the state that the edge leads to.
pub record GoesBy (next : ℕ → List (Path Label)) (edges : List (Edge Label)) (path : Path Label) : Type 0 where
  pub edge : Edge Label
  pub rest : Path Label
  pub is_in : IsIn edge edges
  pub goes_on : IsIn rest (next edge.to)
  pub is_path : path ≡ edge ∷ rest

module _ (next : ℕ → List (Path Label)) where
  abbrev by_edge : Edge Label → List (Path Label)
  by_edge edge = map (λ (path : Path Label). edge ∷ path) (next edge.to)

  pub in_by_edges : (edges : List (Edge Label)) (edge : Edge Label) (path : Path Label)
      → IsIn edge edges → IsIn path (next edge.to) → IsIn (edge ∷ path) (paths_by_edges next edges)
  in_by_edges [] edge path is goes_on = absurd is
  in_by_edges (first ∷ edges) edge path is goes_on =
      in_flat_map by_edge edge (edge ∷ path) (first ∷ edges) is (in_map (λ (rest : Path Label). edge ∷ rest) path (next edge.to) goes_on)

  pub of_by_edges : (edges : List (Edge Label)) (path : Path Label)
      → IsIn path (paths_by_edges next edges) → ((edges ≡ []) × (path ≡ [])) ⊎ GoesBy next edges path
  of_by_edges [] path (inl same) = inl (refl, sym same)
  of_by_edges [] path (inr none) = absurd none
  of_by_edges (first ∷ edges) path is =
      let it = of_flat_map by_edge path (first ∷ edges) is in
      let made = of_map (λ (rest : Path Label). it.one ∷ rest) path (next it.one.to) it.there in
      inr (record { edge = it.one; rest = made.one; is_in = it.is_in; goes_on = made.is_in; is_path = sym made.made })

  pub some_by_edges : (edges : List (Edge Label)) → ((edge : Edge Label) → IsIn edge edges → (path : Path Label) × IsIn path (next edge.to))
      → (path : Path Label) × IsIn path (paths_by_edges next edges)
  some_by_edges [] each = ([], inl refl)
  some_by_edges (edge ∷ edges) each =
      let it = each edge (inl refl) in (edge ∷ it.0, in_by_edges (edge ∷ edges) edge it.0 (inl refl) it.1)

  -- ---- the schedules of paths

  module _ (after : ℕ → List (List ℕ)) where
    schedules_by_each : (edges : List (Edge Label))
        → ((edge : Edge Label) → IsIn edge edges → map builds_of_path (next edge.to) ≡ after edge.label.build)
        → map builds_of_path (flat_map by_edge edges)
        ≡ flat_map (λ (build : ℕ). map (λ (schedule : List ℕ). build ∷ schedule) (after build)) (map (λ (edge : Edge Label). edge.label.build) edges)
    schedules_by_each [] each = refl
    schedules_by_each (edge ∷ edges) each =
        let first = builds_on edge (next edge.to) ∙ ap (map (λ (schedule : List ℕ). edge.label.build ∷ schedule)) (each edge (inl refl)) in
        let rest = schedules_by_each edges (λ other is. each other (inr is)) in
        map-append builds_of_path (by_edge edge) (flat_map by_edge edges) ∙ (λ i. first i ++ rest i)

    pub schedules_by_edges : (edges : List (Edge Label))
        → ((edge : Edge Label) → IsIn edge edges → map builds_of_path (next edge.to) ≡ after edge.label.build)
        → map builds_of_path (paths_by_edges next edges) ≡ by_builds after (map (λ (edge : Edge Label). edge.label.build) edges)
    schedules_by_edges [] each = refl
    schedules_by_edges (edge ∷ edges) each = schedules_by_each (edge ∷ edges) each

  -- ---- paths that rise

  rising_by_each : (edges : List (Edge Label)) → Pairs (λ (one other : Edge Label). one.label.build < other.label.build) edges
      → ((edge : Edge Label) → IsIn edge edges → Pairs Rises (next edge.to)) → Pairs Rises (flat_map by_edge edges)
  rising_by_each [] low each = tt
  rising_by_each (edge ∷ edges) low each =
      pairs_append Rises (by_edge edge) (flat_map by_edge edges)
      (pairs_map Rises (λ (path : Path Label). edge ∷ path) (next edge.to)
      (pairs_weaker Rises (λ (one other : Path Label). Rises (edge ∷ one) (edge ∷ other)) (next edge.to) (rises_on edge) (each edge (inl refl))))
      (rising_by_each edges low.1 (λ other is. each other (inr is)))
      (λ x y in_x in_y.
      let one = of_map (λ (path : Path Label). edge ∷ path) x (next edge.to) in_x in
      let way = of_flat_map by_edge y edges in_y in
      let other = of_map (λ (path : Path Label). way.one ∷ path) y (next way.one.to) way.there in
      subst (λ (path : Path Label). Rises path y) one.made
      (subst (λ (path : Path Label). Rises (edge ∷ one.one) path) other.made (rises_here edge way.one one.one other.one (low.0 way.one way.is_in))))

  pub rising_by_edges : (edges : List (Edge Label)) → Pairs (λ (one other : Edge Label). one.label.build < other.label.build) edges
      → ((edge : Edge Label) → IsIn edge edges → Pairs Rises (next edge.to)) → Pairs Rises (paths_by_edges next edges)
  rising_by_edges [] low each = ((λ path is. absurd is), tt)
  rising_by_edges (edge ∷ edges) low each = rising_by_each (edge ∷ edges) low each
