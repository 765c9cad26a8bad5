-- Proofs about the paths of a whole state graph: a scheduling rule that agrees with them allows exactly their
-- schedules, which are in ascending order. On each path, the steps of each build end in sequence.
use Rattle.std.proofs.Common.{◌≡◌, ℕ, zero, suc, ◌+◌, ◌-◌, ◌<◌, ◌≤◌, ◌==◌, ◌&&◌, inl, inr, Bool, true, false, cond, List, [], ◌∷◌, ◌++◌, map, length, get_or, drop, All, Option, Some, None, Vec, Global, vec_items, is_some, refl, sym, ap, subst, ◌∙◌, arith, append_assoc, add-one, drop-cons, eqb-true}
use Rattle.std.specs.Prelude.{◌⊎◌, AllPairs, Contains, count_by, filter, option_and_then, slice_get}
use Rattle.std.specs.List.{find, list_all, range_with_len}
use Rattle.std.proofs.Math.Nat.{sub-zero}
use Rattle.std.proofs.lemmas.Bool.{and_parts, both_ways, false_from_ne_true}
use Rattle.std.proofs.lemmas.List.{get_or_past, length-map, map-append}
use Rattle.std.proofs.lemmas.List.Elements.{filter-append}
use Rattle.std.proofs.lemmas.List.Sums.{fold-append, sum_by-cons}
use Rattle.std.proofs.lemmas.Option.{slice_get-get_or, slice_get_within, get_or_from_slice_get}
use Rattle.host_commands.specs.declared.cmd.Step.TheVariants.{Abort}
use Rattle.realm_plan.specs.Plan.{Plan}
use Rattle.realm_plan.specs.declared.step.PlanStep.{PlanStep}
use Rattle.realm_plan.specs.declared.step.PlanStep.TheVariants.{Whole}
use Rattle.plan_replay.specs.Place.{giving_up}
use Rattle.plan_replay.specs.Run.{step_after, step_numbered}
use Rattle.schedule_graph.specs.First.{layers_in}
use Rattle.schedule_graph.specs.Paths.{Layer, Path, paths_by_edges, paths}
use Rattle.schedule_graph.specs.declared.graph.Edge.{Edge}
use Rattle.plan_states.specs.Lines.{step_number}
use Rattle.plan_states.specs.Schedules.{by_builds, by_turns, done_by, end_at, ends_of, ends_of_path, own_rule, schedules_after, steps_ended, turns_from, used_by, AreInSequence, HasSingleTurns, IsRuleOf, IsSchedule}
use Rattle.plan_states.specs.Tallies.{builds_of_path, is_before, layers_of, paths_of}
use Rattle.plan_states.specs.Whole.{are_done_after, done_after, done_of, has_step_left, has_map, are_over, layer_at, number_by, leads_if_there, leads_on, states_at, takes_many, uses_next, IsStateWhole, IsWholeGraph}
use Rattle.plan_states.specs.declared.edges.Label.{Label}
use Rattle.plan_states.specs.declared.graph.Graph.{Graph}
use Rattle.plan_states.specs.declared.step_end.EndOfStep.{EndOfStep}
use Rattle.plan_states.proofs.Members.{IsIn, IsMadeOf, in_left, in_map, of_map, in_filter, of_filter, filter_alike, at_list_all, in_range, of_range, in_contains, contains_in, all_in, Pairs, all_pairs, pairs_map, pairs_of_map, pairs_filter, pairs_range}
use Rattle.plan_states.proofs.Paths.{Rises, edge_found, in_by_edges, of_by_edges, some_by_edges, rising_by_edges, schedules_by_edges}
use Rattle.plan_states.proofs.StepEnds.{none_left, more_left, number_plain, sequence_join, steps_counted, steps_of, turn_ends, steps_join}

-- ---- layers

layer_is : (layers : List (Vec (Vec (Edge Label) Global) Global)) (depth : ℕ)
    → get_or (layers_in layers) depth [] ≡ map vec_items (get_or (map vec_items layers) depth [])
layer_is [] depth = refl
layer_is (layer ∷ layers) zero = refl
layer_is (layer ∷ layers) (suc depth) = layer_is layers depth

module _ (plan : Plan) (graph : Graph) (whole : IsWholeGraph plan graph) where
  abbrev done_at : ℕ → ℕ → List ℕ
  done_at depth state = get_or (states_at graph depth) state []

  abbrev edges_at : ℕ → ℕ → List (Edge Label)
  edges_at depth state = get_or (map vec_items (layer_at graph depth)) state []

  abbrev paths_at : ℕ → ℕ → List (Path Label)
  paths_at depth state = paths (drop depth (layers_of graph)) state

  -- after the last layer there is no state
  none_past : (depth state : ℕ) → length graph.layers.items ≡ depth → state < length (states_at graph depth) → ⊥
  none_past depth state past inside =
      let long = length-map graph.progress.items vec_items in
      let many = whole.as_many in
      let none = get_or_past (map vec_items graph.progress.items) depth [] (omega arith) in
      let empty = ap length none in
      omega arith

  -- ---- a state

  -- The edge leads to a state of the next layer, in which each build's progress is that after the edge's turn.
  -- The turn ends its build's next step, or leaves that step under way.
  record Leads (depth state : ℕ) (edge : Edge Label) : Type 0 where
    inside : edge.to < length (states_at graph (depth + 1))
    done : (build : ℕ) → build < 8 → done_of (done_at (depth + 1) edge.to) build ≡ done_after plan graph.ends.items (done_at depth state) edge.label build
    uses : uses_next plan graph.ends.items edge.label.build (done_of (done_at depth state) edge.label.build) edge.label.end ≡ true

  module _ (depth state : ℕ) (early : depth < length graph.layers.items) (inside : state < length (states_at graph depth)) where
    is_state : IsStateWhole plan graph.ends.items (length graph.maps.items) (done_at depth state) (states_at graph (depth + 1)) (edges_at depth state)
    is_state = (whole.layers depth early).each state inside

    edges_are : slice_get (get_or (layers_of graph) depth []) state ≡ Some (edges_at depth state)
    edges_are =
        let many = (whole.layers depth early).as_many in
        let long = length-map (layer_at graph depth) vec_items in
        ap (λ (layer : Layer Label). slice_get layer state) (layer_is graph.layers.items depth)
        ∙ slice_get-get_or (map vec_items (layer_at graph depth)) state [] (omega arith)

    paths_are : paths_at depth state ≡ paths_by_edges (paths_at (depth + 1)) (edges_at depth state)
    paths_are =
        let long = length-map graph.layers.items (λ (layer : Vec (Vec (Edge Label) Global) Global). map vec_items (vec_items layer)) in
        ap (λ (layers : List (Layer Label)). paths layers state) (drop-cons (layers_of graph) depth [] (omega arith))
        ∙ ap (λ (o : Option (List (Edge Label))). elim o as (λ _. List (Path Label)) [
          | Some edges ↦ paths_by_edges (paths (drop (suc depth) (layers_of graph))) edges
          | None ↦ []
        ]) edges_are
        ∙ ap (λ (n : ℕ). paths_by_edges (paths (drop n (layers_of graph))) (edges_at depth state)) (sym (add-one depth))

    -- the build of each edge from the state has a step left; `edge_of` is the converse
    build_left : (edge : Edge Label) → IsIn edge (edges_at depth state)
        → (edge.label.build < 8) × (has_step_left plan (done_at depth state) edge.label.build ≡ true)
    build_left edge is =
        let it = of_filter (has_step_left plan (done_at depth state)) edge.label.build (range_with_len 0 8)
        (subst (λ (builds : List ℕ). IsIn edge.label.build builds) is_state.builds (in_map (λ (e : Edge Label). e.label.build) edge (edges_at depth state) is)) in
        ((of_range 0 8 edge.label.build it.0).1, it.1)

    edge_of : (build : ℕ) → build < 8 → has_step_left plan (done_at depth state) build ≡ true
        → IsMadeOf (λ (e : Edge Label). e.label.build) build (edges_at depth state)
    edge_of build few left =
        of_map (λ (e : Edge Label). e.label.build) build (edges_at depth state)
        (subst (λ (builds : List ℕ). IsIn build builds) (sym is_state.builds)
        (in_filter (has_step_left plan (done_at depth state)) build (range_with_len 0 8) (in_range 0 8 build (omega arith) few) left))

    low : Pairs (λ (one other : Edge Label). one.label.build < other.label.build) (edges_at depth state)
    low =
        pairs_of_map (λ (a b : ℕ). a < b) (λ (e : Edge Label). e.label.build) (edges_at depth state)
        (subst (Pairs (λ (a b : ℕ). a < b)) (sym is_state.builds)
        (pairs_filter (λ (a b : ℕ). a < b) (has_step_left plan (done_at depth state)) (range_with_len 0 8) (pairs_range 0 8)))

    leads : (edge : Edge Label) → IsIn edge (edges_at depth state) → Leads depth state edge
    leads edge is =
        at (slice_get (states_at graph (depth + 1)) edge.to) refl
        (at_list_all (leads_on plan graph.ends.items (length graph.maps.items) (done_at depth state) (states_at graph (depth + 1))) edge (edges_at depth state) is_state.lead_on is)
      where
        at : (o : Option (List ℕ)) → slice_get (states_at graph (depth + 1)) edge.to ≡ o
            → leads_if_there plan graph.ends.items (length graph.maps.items) (done_at depth state) edge.label o ≡ true → Leads depth state edge
        at None none goes = absurd cc
        at (Some then) there goes =
            let done = done_at depth state in
            let first = and_parts (uses_next plan graph.ends.items edge.label.build (done_of done edge.label.build) edge.label.end)
            (are_done_after plan graph.ends.items done edge.label then && has_map (length graph.maps.items) (are_over plan then) edge.label.map) goes in
            let second = and_parts (are_done_after plan graph.ends.items done edge.label then) (has_map (length graph.maps.items) (are_over plan then) edge.label.map) first.1 in
            record {
              inside = slice_get_within (states_at graph (depth + 1)) edge.to then there;
              done = λ build few.
                  ap (λ (d : List ℕ). done_of d build) (get_or_from_slice_get (states_at graph (depth + 1)) edge.to then [] there)
                  ∙ eqb-true (done_of then build) (done_after plan graph.ends.items done edge.label build)
                  (at_list_all (λ (b : ℕ). done_of then b == done_after plan graph.ends.items done edge.label b) build (range_with_len 0 8) second.0 (in_range 0 8 build (omega arith) few));
              uses = first.0;
            }

  -- ---- all states

  some_path : (left depth state : ℕ) → depth + left ≡ length graph.layers.items → state < length (states_at graph depth)
      → (path : Path Label) × IsIn path (paths_at depth state)
  some_path zero depth state sum inside = absurd (none_past depth state (omega arith) inside)
  some_path (suc left) depth state sum inside =
      let early : depth < length graph.layers.items = omega arith in
      subst (λ (ps : List (Path Label)). (path : Path Label) × IsIn path ps) (sym (paths_are depth state early inside))
      (some_by_edges (paths_at (depth + 1)) (edges_at depth state) (λ edge is.
      some_path left (depth + 1) edge.to (omega arith) (leads depth state early inside edge is).inside))

  rising : (left depth state : ℕ) → depth + left ≡ length graph.layers.items → state < length (states_at graph depth)
      → Pairs Rises (paths_at depth state)
  rising zero depth state sum inside = absurd (none_past depth state (omega arith) inside)
  rising (suc left) depth state sum inside =
      let early : depth < length graph.layers.items = omega arith in
      subst (Pairs Rises) (sym (paths_are depth state early inside))
      (rising_by_edges (paths_at (depth + 1)) (edges_at depth state) (low depth state early inside) (λ edge is.
      rising left (depth + 1) edge.to (omega arith) (leads depth state early inside edge is).inside))

  -- ---- the first state

  one_first : length (states_at graph 0) ≡ 1
  one_first =
      eqb-true (length (states_at graph 0)) 1
      (and_parts (length (states_at graph 0) == 1) (list_all (λ (b : ℕ). done_of (done_at 0 0) b == 0) (range_with_len 0 8)) whole.start).0

  none_done : (build : ℕ) → build < 8 → done_of (done_at 0 0) build ≡ 0
  none_done build few =
      eqb-true (done_of (done_at 0 0) build) 0
      (at_list_all (λ (b : ℕ). done_of (done_at 0 0) b == 0) build (range_with_len 0 8)
      (and_parts (length (states_at graph 0) == 1) (list_all (λ (b : ℕ). done_of (done_at 0 0) b == 0) (range_with_len 0 8)) whole.start).1
      (in_range 0 8 build (omega arith) few))

  pub paths_rise : AllPairs (λ (one other : List ℕ). is_before one other ≡ true) (map builds_of_path (paths_of graph))
  paths_rise =
      let first = one_first in
      all_pairs (λ (one other : List ℕ). is_before one other ≡ true) (map builds_of_path (paths_of graph))
      (pairs_map (λ (one other : List ℕ). is_before one other ≡ true) builds_of_path (paths_of graph)
      (rising (length graph.layers.items) 0 0 (omega arith) (omega arith)))

  -- ---- states that turns lead to

  done_more : (done : List ℕ) (before : Path Label) (edge : Edge Label) (build : ℕ) → done_of done build ≡ done_by plan graph before build
      → done_after plan graph.ends.items done edge.label build ≡ done_by plan graph (before ++ edge ∷ []) build
  done_more done before edge build same =
      ap (λ (n : ℕ). number_by plan graph.ends.items build n edge.label) same
      ∙ sym (fold-append (λ (n : ℕ) (e : Edge Label). number_by plan graph.ends.items build n e.label) 0 before (edge ∷ []))

  -- The turns of the path `before` lead to the state. The state has the numbers of steps done in these turns, and each
  -- path from it continues `before` to a path of the graph.
  record IsReachedBy (before : Path Label) (depth state : ℕ) : Type 0 where
    inside : state < length (states_at graph depth)
    done : (build : ℕ) → build < 8 → done_of (done_at depth state) build ≡ done_by plan graph before build
    goes_on : (path : Path Label) → IsIn path (paths_at depth state) → Contains (paths_of graph) (before ++ path)

  reached_first : IsReachedBy [] 0 0
  reached_first = record {
    inside = let first = one_first in omega arith;
    done = none_done;
    goes_on = λ path is. contains_in path (paths_of graph) is;
  }

  reached_next : (before : Path Label) (depth state : ℕ) (early : depth < length graph.layers.items) (reached : IsReachedBy before depth state)
      (edge : Edge Label) → IsIn edge (edges_at depth state) → IsReachedBy (before ++ edge ∷ []) (depth + 1) edge.to
  reached_next before depth state early reached edge is =
      let to = leads depth state early reached.inside edge is in
      record {
        inside = to.inside;
        done = λ build few. to.done build few ∙ done_more (done_at depth state) before edge build (reached.done build few);
        goes_on = λ path there.
            subst (λ (all : Path Label). Contains (paths_of graph) all) (sym (append_assoc before (edge ∷ []) path))
            (reached.goes_on (edge ∷ path) (subst (λ (ps : List (Path Label)). IsIn (edge ∷ path) ps) (sym (paths_are depth state early reached.inside))
            (in_by_edges (paths_at (depth + 1)) (edges_at depth state) edge path is there)));
      }

  builds_more : (before : Path Label) (edge : Edge Label) → builds_of_path (before ++ edge ∷ []) ≡ builds_of_path before ++ edge.label.build ∷ []
  builds_more before edge = map-append (λ (e : Edge Label). e.label.build) before (edge ∷ [])

  -- ---- a rule

  -- Some path in `ps` has this schedule.
  record IsFoundIn (ps : List (Path Label)) (schedule : List ℕ) : Type 0 where
    path : Path Label
    is_in : IsIn path ps
    builds : builds_of_path path ≡ schedule

  found_end : (next : ℕ → List (Path Label)) (edges : List (Edge Label)) → ((edge : Edge Label) → IsIn edge edges → ⊥)
      → IsFoundIn (paths_by_edges next edges) []
  found_end next [] none = record { path = []; is_in = inl refl; builds = refl }
  found_end next (edge ∷ edges) none = absurd (none edge (inl refl))

  module _ (left : List ℕ → ℕ → Bool) (rule : IsRuleOf plan graph left) where
    rule_here : (n : ℕ) (before : Path Label) (depth state : ℕ) → depth + n ≡ length graph.layers.items → IsReachedBy before depth state
        → (build : ℕ) → build < 8 → left (builds_of_path before) build ≡ has_step_left plan (done_at depth state) build
    rule_here n before depth state sum reached build few =
        let some = some_path n depth state sum reached.inside in
        rule before some.0 (reached.goes_on some.0 some.1) build few
        ∙ sym (ap (λ (done : ℕ). is_some (step_after plan build done)) (reached.done build few))

    builds_by_rule : (n : ℕ) (before : Path Label) (depth state : ℕ) → depth + n ≡ length graph.layers.items → (early : depth < length graph.layers.items)
        → (reached : IsReachedBy before depth state)
        → map (λ (e : Edge Label). e.label.build) (edges_at depth state) ≡ filter (left (builds_of_path before)) (range_with_len 0 8)
    builds_by_rule n before depth state sum early reached =
        (is_state depth state early reached.inside).builds
        ∙ filter_alike (has_step_left plan (done_at depth state)) (left (builds_of_path before)) (range_with_len 0 8) (λ build is.
        sym (rule_here n before depth state sum reached build (of_range 0 8 build is).1))

    found_from : (n : ℕ) (before : Path Label) (depth state : ℕ) (schedule : List ℕ) → depth + n ≡ length graph.layers.items
        → IsReachedBy before depth state → IsSchedule left (builds_of_path before) schedule → IsFoundIn (paths_at depth state) schedule
    found_from zero before depth state schedule sum reached is = absurd (none_past depth state (omega arith) reached.inside)
    found_from (suc n) before depth state [] sum reached is =
        let early : depth < length graph.layers.items = omega arith in
        subst (λ (ps : List (Path Label)). IsFoundIn ps []) (sym (paths_are depth state early reached.inside))
        (found_end (paths_at (depth + 1)) (edges_at depth state) (λ edge there.
        let it = build_left depth state early reached.inside edge there in
        both_ways (has_step_left plan (done_at depth state) edge.label.build)
        (sym (rule_here (suc n) before depth state sum reached edge.label.build it.0) ∙ is edge.label.build it.0) it.1))
    found_from (suc n) before depth state (build ∷ schedule) sum reached is =
        let early : depth < length graph.layers.items = omega arith in
        let way = edge_of depth state early reached.inside build is.0 (sym (rule_here (suc n) before depth state sum reached build is.0) ∙ is.1) in
        let later = found_from n (before ++ way.one ∷ []) (depth + 1) way.one.to schedule (omega arith) (reached_next before depth state early reached way.one way.is_in)
        (subst (λ (builds : List ℕ). IsSchedule left builds schedule)
        (sym (builds_more before way.one ∙ ap (λ (b : ℕ). builds_of_path before ++ b ∷ []) way.made)) is.2) in
        record {
          path = way.one ∷ later.path;
          is_in = subst (λ (ps : List (Path Label)). IsIn (way.one ∷ later.path) ps) (sym (paths_are depth state early reached.inside))
              (in_by_edges (paths_at (depth + 1)) (edges_at depth state) way.one later.path way.is_in later.is_in);
          builds = λ i. way.made i ∷ later.builds i;
        }

    schedule_from : (n : ℕ) (before : Path Label) (depth state : ℕ) (path : Path Label) → depth + n ≡ length graph.layers.items
        → IsReachedBy before depth state → IsIn path (paths_at depth state) → IsSchedule left (builds_of_path before) (builds_of_path path)
    schedule_from zero before depth state path sum reached is = absurd (none_past depth state (omega arith) reached.inside)
    schedule_from (suc n) before depth state path sum reached is =
        let early : depth < length graph.layers.items = omega arith in
        let here = rule_here (suc n) before depth state sum reached in
        elim (of_by_edges (paths_at (depth + 1)) (edges_at depth state) path
        (subst (λ (ps : List (Path Label)). IsIn path ps) (paths_are depth state early reached.inside) is))
        as (λ _. IsSchedule left (builds_of_path before) (builds_of_path path)) [
          | inl end ↦ subst (λ (p : Path Label). IsSchedule left (builds_of_path before) (builds_of_path p)) (sym end.1)
              (λ build few. here build few ∙ false_from_ne_true (has_step_left plan (done_at depth state) build) (λ holds.
              let way = edge_of depth state early reached.inside build few holds in
              subst (λ (edges : List (Edge Label)). IsIn way.one edges) end.0 way.is_in))
          | inr on ↦
              let it = build_left depth state early reached.inside on.edge on.is_in in
              subst (λ (p : Path Label). IsSchedule left (builds_of_path before) (builds_of_path p)) (sym on.is_path) (
                it.0,
                here on.edge.label.build it.0 ∙ it.1,
                subst (λ (builds : List ℕ). IsSchedule left builds (builds_of_path on.rest)) (builds_more before on.edge)
                    (schedule_from n (before ++ on.edge ∷ []) (depth + 1) on.edge.to on.rest (omega arith)
                    (reached_next before depth state early reached on.edge on.is_in) on.goes_on),
              )
        ]

    pub schedule_is_found : (schedule : List ℕ) → IsSchedule left [] schedule → Contains (map builds_of_path (paths_of graph)) schedule
    schedule_is_found schedule is =
        let it = found_from (length graph.layers.items) [] 0 0 schedule (omega arith) reached_first is in
        contains_in schedule (map builds_of_path (paths_of graph))
        (subst (λ (builds : List ℕ). IsIn builds (map builds_of_path (paths_of graph))) it.builds (in_map builds_of_path it.path (paths_of graph) it.is_in))

    abbrev goes_on_by : ℕ → List ℕ → ℕ → List (List ℕ)
    goes_on_by most before build = schedules_after left most (before ++ build ∷ [])

    list_from : (n most : ℕ) (before : Path Label) (depth state : ℕ) → depth + n ≡ length graph.layers.items → n ≤ most + 1
        → IsReachedBy before depth state → map builds_of_path (paths_at depth state) ≡ schedules_after left most (builds_of_path before)
    list_from zero most before depth state sum within reached = absurd (none_past depth state (omega arith) reached.inside)
    list_from (suc n) zero before depth state sum within reached =
        let early : depth < length graph.layers.items = omega arith in
        ap (map builds_of_path) (paths_are depth state early reached.inside)
        ∙ schedules_by_edges (paths_at (depth + 1)) (λ build. []) (edges_at depth state) (λ edge is.
        absurd (none_past (depth + 1) edge.to (omega arith) (leads depth state early reached.inside edge is).inside))
        ∙ ap (by_builds (λ build. [])) (builds_by_rule (suc n) before depth state sum early reached)
    list_from (suc n) (suc most) before depth state sum within reached =
        let early : depth < length graph.layers.items = omega arith in
        ap (map builds_of_path) (paths_are depth state early reached.inside)
        ∙ schedules_by_edges (paths_at (depth + 1)) (goes_on_by most (builds_of_path before)) (edges_at depth state) (λ edge is.
        list_from n most (before ++ edge ∷ []) (depth + 1) edge.to (omega arith) (omega arith) (reached_next before depth state early reached edge is)
        ∙ ap (schedules_after left most) (builds_more before edge))
        ∙ ap (by_builds (goes_on_by most (builds_of_path before))) (builds_by_rule (suc n) before depth state sum early reached)

    pub list_of_schedules : (most : ℕ) → length graph.layers.items ≤ most + 1 → map builds_of_path (paths_of graph) ≡ schedules_after left most []
    list_of_schedules most within = list_from (length graph.layers.items) most [] 0 0 (omega arith) within reached_first

    pub paths_are_schedules : All (IsSchedule left []) (map builds_of_path (paths_of graph))
    paths_are_schedules = all_in (IsSchedule left []) (map builds_of_path (paths_of graph)) (λ schedule is.
        let it = of_map builds_of_path schedule (paths_of graph) is in
        subst (IsSchedule left []) it.made (schedule_from (length graph.layers.items) [] 0 0 it.one (omega arith) reached_first it.is_in))

  -- ---- the graph's own rule

  abbrev goes_on_from : ℕ → List ℕ → Option (Edge Label) → Path Label
  goes_on_from depth schedule None = []
  goes_on_from depth schedule (Some edge) = edge ∷ turns_from (layers_of graph) (depth + 1) edge.to schedule

  turns_are : (n depth state : ℕ) (front rest : Path Label) → depth + n ≡ length graph.layers.items → state < length (states_at graph depth)
      → IsIn (front ++ rest) (paths_at depth state) → turns_from (layers_of graph) depth state (builds_of_path front) ≡ front
  turns_are n depth state [] rest sum inside is = refl
  turns_are zero depth state (edge ∷ front) rest sum inside is = absurd (none_past depth state (omega arith) inside)
  turns_are (suc n) depth state (edge ∷ front) rest sum inside is =
      let early : depth < length graph.layers.items = omega arith in
      elim (of_by_edges (paths_at (depth + 1)) (edges_at depth state) (edge ∷ (front ++ rest))
      (subst (λ (ps : List (Path Label)). IsIn (edge ∷ (front ++ rest)) ps) (paths_are depth state early inside) is))
      as (λ _. turns_from (layers_of graph) depth state (builds_of_path (edge ∷ front)) ≡ edge ∷ front) [
        | inl end ↦ (let none = end.1 in absurd cc)
        | inr on ↦
            let whole_path = on.is_path in
            let first : on.edge ≡ edge = cc in
            let others : on.rest ≡ front ++ rest = cc in
            let there = subst (λ (e : Edge Label). IsIn e (edges_at depth state)) first on.is_in in
            let goes_on = subst (λ (e : Edge Label). IsIn (front ++ rest) (paths_at (depth + 1) e.to)) first
            (subst (λ (path : Path Label). IsIn path (paths_at (depth + 1) on.edge.to)) others on.goes_on) in
            let to = leads depth state early inside edge there in
            ap (λ (layer : Layer Label). goes_on_from depth (builds_of_path front) (find (λ (e : Edge Label). e.label.build == edge.label.build) (get_or layer state [])))
            (layer_is graph.layers.items depth)
            ∙ ap (goes_on_from depth (builds_of_path front)) (edge_found (edges_at depth state) edge (low depth state early inside) there)
            ∙ ap (λ (path : Path Label). edge ∷ path) (turns_are n (depth + 1) edge.to front rest (omega arith) to.inside goes_on)
      ]

  pub own_is_rule : IsRuleOf plan graph (own_rule plan graph)
  own_is_rule = λ front rest is build few.
      let first = one_first in
      ap (λ (path : Path Label). is_some (step_after plan build (done_by plan graph path build)))
      (turns_are (length graph.layers.items) 0 0 front rest (omega arith) (omega arith) (in_contains (front ++ rest) (paths_of graph) is))

  -- ---- plans in which each step takes one turn

  module _ (single : HasSingleTurns plan) where
    some_end : (build done : ℕ) (end : Option ℕ) → uses_next plan graph.ends.items build done end ≡ true → is_some end ≡ true
    some_end build done None uses = absurd (both_ways (takes_many (step_after plan build done)) (single build done) uses)
    some_end build done (Some number) uses = refl

    ends_from : (n depth state : ℕ) (path : Path Label) (edge : Edge Label) → depth + n ≡ length graph.layers.items
        → state < length (states_at graph depth) → IsIn path (paths_at depth state) → IsIn edge path → is_some edge.label.end ≡ true
    ends_from zero depth state path edge sum inside is there = absurd (none_past depth state (omega arith) inside)
    ends_from (suc n) depth state path edge sum inside is there =
        let early : depth < length graph.layers.items = omega arith in
        elim (of_by_edges (paths_at (depth + 1)) (edges_at depth state) path
        (subst (λ (ps : List (Path Label)). IsIn path ps) (paths_are depth state early inside) is))
        as (λ _. is_some edge.label.end ≡ true) [
          | inl end ↦ absurd (subst (λ (p : Path Label). IsIn edge p) end.1 there)
          | inr on ↦
              let to = leads depth state early inside on.edge on.is_in in
              elim (subst (λ (p : Path Label). IsIn edge p) on.is_path there) as (λ _. is_some edge.label.end ≡ true) [
                | inl first ↦ subst (λ (e : Edge Label). is_some e.label.end ≡ true) first
                    (some_end on.edge.label.build (done_of (done_at depth state) on.edge.label.build) on.edge.label.end to.uses)
                | inr later ↦ ends_from n (depth + 1) on.edge.to on.rest edge (omega arith) to.inside on.goes_on later
              ]
        ]

    both_count : (t s : Bool) (n m : ℕ) → s ≡ true → n ≡ m → cond t 1 0 + n ≡ cond (t && s) 1 0 + m
    both_count true true n m holds same = omega arith
    both_count false true n m holds same = omega arith
    both_count t false n m holds same = absurd cc

    turns_used : (front : Path Label) (build : ℕ) → ((edge : Edge Label) → IsIn edge front → is_some edge.label.end ≡ true)
        → count_by (λ (turn : ℕ). build == turn) (builds_of_path front) ≡ used_by front build
    turns_used [] build ends = refl
    turns_used (edge ∷ front) build ends =
        sum_by-cons (λ (turn : ℕ). cond (build == turn) 1 0) edge.label.build (builds_of_path front)
        ∙ both_count (build == edge.label.build) (is_some edge.label.end)
        (count_by (λ (turn : ℕ). build == turn) (builds_of_path front)) (used_by front build)
        (ends edge (inl refl)) (turns_used front build (λ e is. ends e (inr is)))
        ∙ sym (sum_by-cons (λ (e : Edge Label). cond (build == e.label.build && is_some e.label.end) 1 0) edge front)

    -- if each step takes one turn, and the plan has the build, no build gives up, since the abort after giving up may
    -- take several turns
    plain_or_none : (build : ℕ) → (plan.gives_up ≡ false) ⊎ (slice_get plan.builds build ≡ None)
    plain_or_none build = at plan.gives_up refl (slice_get plan.builds build) refl
      where
        at : (g : Bool) → plan.gives_up ≡ g → (steps : Option (List PlanStep)) → slice_get plan.builds build ≡ steps
            → (plan.gives_up ≡ false) ⊎ (slice_get plan.builds build ≡ None)
        at false plain steps there = inl plain
        at true gives_up None there = inr there
        at true gives_up (Some steps) there =
            let abort : step_after plan build giving_up ≡ Some (Whole Abort) =
            λ i. option_and_then (λ (ss : List PlanStep). step_numbered (gives_up i) ss giving_up) (there i) in
            absurd (both_ways (takes_many (step_after plan build giving_up)) (single build giving_up) (ap takes_many abort))

    pub turns_rule : IsRuleOf plan graph (by_turns plan)
    turns_rule = λ front rest is build few. elim (plain_or_none build) as (λ _. by_turns plan (builds_of_path front) build ≡ is_some (step_after plan build (done_by plan graph front build))) [
      | inl plain ↦
          let first = one_first in
          ap (λ (done : ℕ). is_some (step_after plan build done))
          (turns_used front build (λ edge there.
          ends_from (length graph.layers.items) 0 0 (front ++ rest) edge (omega arith) (omega arith)
          (in_contains (front ++ rest) (paths_of graph) is) (in_left edge front rest there))
          ∙ sym (steps_counted plan graph front build plain))
      | inr none ↦
          (λ i. is_some (option_and_then (λ (ss : List PlanStep). step_numbered plan.gives_up ss (count_by (λ (turn : ℕ). build == turn) (builds_of_path front))) (none i)))
          ∙ sym (λ i. is_some (option_and_then (λ (ss : List PlanStep). step_numbered plan.gives_up ss (done_by plan graph front build)) (none i)))
    ]

  -- ---- the steps that paths end

  steps_more : (ends : List EndOfStep) (build : ℕ) (edge : Edge Label) (rest : Path Label)
      → steps_ended ends build (edge ∷ rest) ≡ steps_of build (end_at ends edge.label.end) ++ steps_ended ends build rest
  steps_more ends build edge rest =
      ap (λ (es : List EndOfStep). map (λ (end : EndOfStep). end.step) es)
      (filter-append (λ (end : EndOfStep). end.build == build) (end_at ends edge.label.end) (ends_of_path ends rest))
      ∙ map-append (λ (end : EndOfStep). end.step) (filter (λ (end : EndOfStep). end.build == build) (end_at ends edge.label.end))
      (filter (λ (end : EndOfStep). end.build == build) (ends_of_path ends rest))

  steps_from : (n depth state : ℕ) (path : Path Label) (build : ℕ) → depth + n ≡ length graph.layers.items
      → state < length (states_at graph depth) → build < 8 → plan.gives_up ≡ false → IsIn path (paths_at depth state)
      → steps_ended graph.ends.items build path
      ≡ range_with_len (done_of (done_at depth state) build) (step_number plan build - done_of (done_at depth state) build)
  steps_from zero depth state path build sum inside few plain is = absurd (none_past depth state (omega arith) inside)
  steps_from (suc n) depth state path build sum inside few plain is =
      let early : depth < length graph.layers.items = omega arith in
      let done = done_of (done_at depth state) build in
      elim (of_by_edges (paths_at (depth + 1)) (edges_at depth state) path
      (subst (λ (ps : List (Path Label)). IsIn path ps) (paths_are depth state early inside) is))
      as (λ _. steps_ended graph.ends.items build path ≡ range_with_len done (step_number plan build - done)) [
        | inl end ↦
            let fails = false_from_ne_true (has_step_left plan (done_at depth state) build) (λ holds.
            let way = edge_of depth state early inside build few holds in
            subst (λ (edges : List (Edge Label)). IsIn way.one edges) end.0 way.is_in) in
            let below = none_left plan build done plain fails in
            let nothing : 0 ≡ step_number plan build - done = omega arith in
            ap (λ (p : Path Label). steps_ended graph.ends.items build p) end.1 ∙ ap (range_with_len done) nothing
        | inr on ↦
            let own = on.edge.label.build in
            let to = leads depth state early inside on.edge on.is_in in
            let it = build_left depth state early inside on.edge on.is_in in
            let ends = turn_ends plan graph.ends.items build own (done_of (done_at depth state) own) on.edge.label.end to.uses in
            let later = steps_from n (depth + 1) on.edge.to on.rest build (omega arith) to.inside few plain on.goes_on in
            let one = λ (t : (build == own && is_some on.edge.label.end) ≡ true). eqb-true build own (and_parts (build == own) (is_some on.edge.label.end) t).0 in
            ap (λ (p : Path Label). steps_ended graph.ends.items build p) on.is_path
            ∙ steps_more graph.ends.items build on.edge on.rest
            ∙ (λ i. ends i ++ later i)
            ∙ steps_join (build == own && is_some on.edge.label.end) done (done_of (done_at depth state) own) (done_of (done_at (depth + 1) on.edge.to) build) (step_number plan build)
            (to.done build few ∙ number_plain plan graph.ends.items build done on.edge.label plain)
            (λ t. ap (λ (b : ℕ). done_of (done_at depth state) b) (sym (one t)))
            (λ t. more_left plan build done plain (subst (λ (b : ℕ). has_step_left plan (done_at depth state) b ≡ true) (sym (one t)) it.1))
      ]

  pub each_step_ends : plan.gives_up ≡ false → All (λ (path : Path Label). (build : ℕ) → build < 8 → steps_ended graph.ends.items build path ≡ range_with_len 0 (step_number plan build)) (paths_of graph)
  each_step_ends plain = all_in (λ (path : Path Label). (build : ℕ) → build < 8 → steps_ended graph.ends.items build path ≡ range_with_len 0 (step_number plan build)) (paths_of graph) (λ path is build few.
      let first = one_first in
      let none = none_done build few in
      steps_from (length graph.layers.items) 0 0 path build (omega arith) (omega arith) few plain is
      ∙ (λ i. range_with_len (none i) (step_number plan build - none i)) ∙ ap (range_with_len 0) (sub-zero (step_number plan build)))

  -- ---- and their sequence

  ends_more : (ends : List EndOfStep) (build : ℕ) (edge : Edge Label) (rest : Path Label)
      → ends_of ends build (edge ∷ rest) ≡ filter (λ (end : EndOfStep). end.build == build) (end_at ends edge.label.end) ++ ends_of ends build rest
  ends_more ends build edge rest =
      filter-append (λ (end : EndOfStep). end.build == build) (end_at ends edge.label.end) (ends_of_path ends rest)

  sequence_from : (n depth state : ℕ) (path : Path Label) (build : ℕ) → depth + n ≡ length graph.layers.items
      → state < length (states_at graph depth) → build < 8 → IsIn path (paths_at depth state)
      → AreInSequence plan build (done_of (done_at depth state) build) (ends_of graph.ends.items build path)
  sequence_from zero depth state path build sum inside few is = absurd (none_past depth state (omega arith) inside)
  sequence_from (suc n) depth state path build sum inside few is =
      let early : depth < length graph.layers.items = omega arith in
      let done = done_of (done_at depth state) build in
      elim (of_by_edges (paths_at (depth + 1)) (edges_at depth state) path
      (subst (λ (ps : List (Path Label)). IsIn path ps) (paths_are depth state early inside) is))
      as (λ _. AreInSequence plan build done (ends_of graph.ends.items build path)) [
        | inl end ↦ subst (λ (p : Path Label). AreInSequence plan build done (ends_of graph.ends.items build p)) (sym end.1)
            (false_from_ne_true (has_step_left plan (done_at depth state) build) (λ holds.
            let way = edge_of depth state early inside build few holds in
            subst (λ (edges : List (Edge Label)). IsIn way.one edges) end.0 way.is_in))
        | inr on ↦
            let own = on.edge.label.build in
            let to = leads depth state early inside on.edge on.is_in in
            subst (λ (p : Path Label). AreInSequence plan build done (ends_of graph.ends.items build p)) (sym on.is_path)
            (subst (AreInSequence plan build done) (sym (ends_more graph.ends.items build on.edge on.rest))
            (sequence_join plan graph.ends.items build own (done_of (done_at depth state) own) on.edge.label.end done
            (done_of (done_at (depth + 1) on.edge.to) build) (ends_of graph.ends.items build on.rest) to.uses
            (λ same. ap (λ (b : ℕ). done_of (done_at depth state) b) (sym same))
            (to.done build few)
            (sequence_from n (depth + 1) on.edge.to on.rest build (omega arith) to.inside few on.goes_on)))
      ]

  pub ends_in_sequence : All (λ (path : Path Label). (build : ℕ) → build < 8 → AreInSequence plan build 0 (ends_of graph.ends.items build path)) (paths_of graph)
  ends_in_sequence = all_in (λ (path : Path Label). (build : ℕ) → build < 8 → AreInSequence plan build 0 (ends_of graph.ends.items build path)) (paths_of graph) (λ path is build few.
      let first = one_first in
      subst (λ (n : ℕ). AreInSequence plan build n (ends_of graph.ends.items build path)) (none_done build few)
      (sequence_from (length graph.layers.items) 0 0 path build (omega arith) (omega arith) few is))
