-- A proof that, if the log of turns has a turn for each edge of a state graph, all paths of the graph are runs of the
-- plan.
use Rattle.std.proofs.Common.{◌≡◌, ℕ, zero, suc, ◌+◌, ◌<◌, List, [], ◌∷◌, map, length, get_or, Option, Some, None, inl, inr, refl, sym, ap, ◌∙◌, subst, add-one}
use Rattle.std.specs.Prelude.{slice_get, is_some, Vec, vec_items}
use Rattle.std.specs.declared.alloc.Global.{Global}
use Rattle.std.specs.declared.string.String.{String}
use Rattle.std.specs.List.{range_with_len}
use Rattle.std.proofs.lemmas.List.{length-map}
use Rattle.std.proofs.lemmas.List.Elements.{All-contains}
use Rattle.std.proofs.lemmas.Option.{none-some, same_Some, slice_get_within, get_or_from_slice_get}
use Rattle.realm_plan.specs.Plan.{Plan}
use Rattle.realm_host.proofs.Interleaved.{are_indistinguishable}
use Rattle.realm_program.specs.Replay.{opening_host}
use Rattle.plan_replay.specs.Run.{Position, start, place_of}
use Rattle.schedule_graph.specs.First.{layers_in}
use Rattle.schedule_graph.specs.Paths.{Layer, Path, paths_by_edges, paths}
use Rattle.schedule_graph.specs.State.{Progress, AreOneState}
use Rattle.schedule_graph.specs.declared.graph.Edge.{Edge}
use Rattle.schedule_graph.proofs.Graphs.{same_on}
use Rattle.schedule_graph.proofs.Kept.{progress_at}
use Rattle.schedule_graph.proofs.States.{turn_too, same_step, same_text}
use Rattle.plan_states.specs.Questions.{pages_of_builds}
use Rattle.plan_states.specs.RunLog.{snapshot_at, AreEdgesLogged, IsComplete, IsEdgeLogged, IsLog, IsLogged, IsSnapshotOfRun, IsShownBy}
use Rattle.plan_states.specs.Runs.{IsLabelled, IsMapNamed, IsRunAlong, IsRunFromBoot, ArePathsRuns}
use Rattle.plan_states.specs.Snapshots.{seen_at}
use Rattle.plan_states.specs.Tallies.{layers_of, paths_of}
use Rattle.plan_states.specs.Whole.{layer_at}
use Rattle.plan_states.specs.declared.edges.Label.{Label}
use Rattle.plan_states.specs.declared.graph.Graph.{Graph}
use Rattle.plan_states.specs.declared.run_log.RunLog.{RunLog}
use Rattle.plan_states.specs.declared.runs.Visit.{Visit}
use Rattle.plan_states.specs.declared.snapshot.Snapshot.{Snapshot}
use Rattle.plan_states.specs.declared.step_end.EndOfStep.{EndOfStep}
use Rattle.plan_states.proofs.Members.{IsIn, contains_in, all_in}
use Rattle.plan_states.proofs.OneState.{one_state}
use Rattle.plan_states.proofs.Paths.{of_by_edges}

-- ---- positions of one snapshot

pub shown_alike : (plan : Plan) (it : Snapshot) (one other : Position) → IsSnapshotOfRun plan it one → IsSnapshotOfRun plan it other → AreOneState one other
shown_alike plan it one other here there =
    one_state plan here.schedule there.schedule one other here.reached there.reached here.of_host there.of_host
    (λ build less. same_Some (seen_at one build) (seen_at other build) (sym (here.builds build less) ∙ there.builds build less))

shown_by_alike : (plan : Plan) (snapshots : List Snapshot) (number : ℕ) (one other : Position)
    → IsShownBy plan snapshots number one → IsShownBy plan snapshots number other → AreOneState one other
shown_by_alike plan snapshots number one other here there =
    let same : here.it ≡ there.it = same_Some here.it there.it (sym here.is_there ∙ there.is_there) in
    shown_alike plan there.it one other (subst (λ it. IsSnapshotOfRun plan it one) same here.shown) there.shown

-- ---- a turn, from any position that is the same state

-- a turn with this label leads from the position `other` to a position that is the same state as `to`
record IsAlsoLabelled (plan : Plan) (ends : List EndOfStep) (held : List (List ℕ)) (maps : List (String Global)) (other : Position) (label : Label) (to : Position) : Type 0 where
  then : Position
  labelled : IsLabelled plan ends held maps other label then
  same : AreOneState to then

done_alike : (one other : Position) → AreOneState one other → (build : ℕ) → (place_of other.places build).done ≡ (place_of one.places build).done
done_alike one other same build = ap (λ (p : Progress). p.done) (progress_at one.places other.places same.progress build)

map_too : (plan : Plan) (maps : List (String Global)) (map : Option ℕ) (one other : Position) → AreOneState one other → IsMapNamed plan maps map one → IsMapNamed plan maps map other
map_too plan maps None one other same is = tt
map_too plan maps (Some number) one other same (over, text) = (
  (λ build less. ap is_some (same_step one other same plan build) ∙ over build less),
  text ∙ ap (λ (t : List ℕ). Some t) (sym (same_text one other same)),
)

same_pages : (one other : Position) → AreOneState one other → pages_of_builds other.host ≡ pages_of_builds one.host
same_pages one other same =
    let alike = are_indistinguishable one.host other.host same.hosts.same in
    λ i. map (λ (build : ℕ). length (alike.pages build i)) (range_with_len 0 8)

module _ (plan : Plan) (ends : List EndOfStep) (held : List (List ℕ)) (maps : List (String Global)) where
  also_labelled : (one other : Position) (label : Label) (to : Position) → AreOneState one other → IsLabelled plan ends held maps one label to
      → IsAlsoLabelled plan ends held maps other label to
  also_labelled one other label to same is =
      let too = turn_too one other same plan is.taken.turn to is.is_taken.is_turn in
      record {
        then = too.then;
        labelled = record {
          taken = is.taken;
          is_taken = record {
            of_build = is.is_taken.of_build;
            is_turn = too.is_turn;
            before = is.is_taken.before ∙ sym (done_alike one other same label.build);
            after = is.is_taken.after ∙ sym (done_alike to too.then too.same label.build);
          };
          is_end = is.is_end;
          is_held = is.is_held ∙ ap (λ (h : List ℕ). Some h) (sym (same_pages to too.then too.same));
          is_map = map_too plan maps label.map to too.then too.same is.is_map;
        };
        same = too.same;
      }

  module _ (snapshots : List Snapshot) where
    -- the number is given, and the snapshot with this number shows the position, which a run of the plan reaches from
    -- boot
    record IsShownAt (number : Option ℕ) (at : Position) : Type 0 where
      which : ℕ
      is : number ≡ Some which
      by : IsShownBy plan snapshots which at

    -- a turn with this label leads from a position that snapshot `from` shows to a position that snapshot `to` shows
    record IsEdgeRun (from to : Option ℕ) (label : Label) : Type 0 where
      at : Position
      after : Position
      before : IsShownAt from at
      labelled : IsLabelled plan ends held maps at label after
      leads : IsShownAt to after

    shown_at_alike : (number : Option ℕ) (one other : Position) → IsShownAt number one → IsShownAt number other → AreOneState one other
    shown_at_alike number one other here there =
        let same : here.which ≡ there.which = same_Some here.which there.which (sym here.is ∙ there.is) in
        shown_by_alike plan snapshots there.which one other (subst (λ n. IsShownBy plan snapshots n one) same here.by) there.by

    -- each edge from each state of each layer is a turn between the snapshots of the two states that it joins
    abbrev AreEdgesRun : (ℕ → ℕ → Option ℕ) → List (Layer Label) → Type 0
    AreEdgesRun number layers =
        (depth state : ℕ) (layer : Layer Label) (edges : List (Edge Label)) → slice_get layers depth ≡ Some layer → slice_get layer state ≡ Some edges
        → (edge : Edge Label) → IsIn edge edges → IsEdgeRun (number depth state) (number (suc depth) edge.to) edge.label

    runs_along : (layers : List (Layer Label)) (number : ℕ → ℕ → Option ℕ) → AreEdgesRun number layers → (state : ℕ) (at q : Position)
        → IsShownAt (number zero state) at → AreOneState at q → (path : Path Label) → IsIn path (paths layers state) → IsRunAlong plan ends held maps q path
    runs_along [] number run state at q shown same path is = absurd is
    runs_along (layer ∷ layers) number run state at q shown same path is =
        elim (slice_get layer state) as (λ o. slice_get layer state ≡ o
        → IsIn path (elim o [ Some edges ↦ paths_by_edges (paths layers) edges | None ↦ [] ]) → IsRunAlong plan ends held maps q path) [
          | Some edges ↦ λ there inside. elim (of_by_edges (paths layers) edges path inside) as (λ _. IsRunAlong plan ends held maps q path) [
            | inl none ↦ subst (IsRunAlong plan ends held maps q) (sym none.1) tt
            | inr by ↦
                let edge = run zero state layer edges refl there by.edge by.is_in in
                let here = same_on edge.at at q (shown_at_alike (number zero state) edge.at at edge.before shown) same in
                let moved = also_labelled edge.at q by.edge.label edge.after here edge.labelled in
                subst (IsRunAlong plan ends held maps q) (sym by.is_path) (
                  moved.then,
                  moved.labelled,
                  runs_along layers (λ depth. number (suc depth)) (λ depth. run (suc depth)) by.edge.to edge.after moved.then edge.leads moved.same by.rest by.goes_on,
                )
          ]
          | None ↦ λ none inside. absurd inside
        ] refl is

-- ---- of a log that has each edge

layer_is : (layers : List (Vec (Vec (Edge Label) Global) Global)) (depth : ℕ) (layer : Layer Label) → slice_get (layers_in layers) depth ≡ Some layer
    → layer ≡ map vec_items (get_or (map vec_items layers) depth [])
layer_is [] depth layer there = absurd (none-some layer there)
layer_is (first ∷ layers) zero layer there = sym (same_Some (map vec_items (vec_items first)) layer there)
layer_is (first ∷ layers) (suc depth) layer there = layer_is layers depth layer there

module _ (plan : Plan) (graph : Graph) (log : RunLog) (visits : List (Vec Visit Global)) (is_log : IsLog plan graph.ends.items graph.held.items graph.maps.items log)
    (complete : IsComplete graph log.turns.items visits) where
  edge_run : (from to : Option ℕ) (label : Label) → IsEdgeLogged log.turns.items from to label
      → IsEdgeRun plan graph.ends.items graph.held.items graph.maps.items log.snapshots.items from to label
  edge_run from to label is =
      let inside = slice_get_within log.turns.items is.number is.turn is.is_there in
      let it = subst (IsLogged plan graph.ends.items graph.held.items graph.maps.items log.snapshots.items)
      (get_or_from_slice_get log.turns.items is.number is.turn is.turn is.is_there) (is_log.turns is.number is.turn inside) in
      record {
        at = it.at;
        after = it.to;
        before = record { which = is.turn.from; is = is.leaves; by = it.before };
        labelled = subst (λ l. IsLabelled plan graph.ends.items graph.held.items graph.maps.items it.at l it.to) is.same it.labelled;
        leads = record { which = is.turn.to; is = is.leads; by = it.after };
      }

  edges_run : AreEdgesRun plan graph.ends.items graph.held.items graph.maps.items log.snapshots.items (snapshot_at visits) (layers_of graph)
  edges_run depth state layer edges at_depth at_state edge is =
      let layer_here : layer ≡ map vec_items (layer_at graph depth) = layer_is graph.layers.items depth layer at_depth in
      let within = slice_get_within (layers_of graph) depth layer at_depth in
      let low : depth < length graph.layers.items = subst (λ n. depth < n) (length-map graph.layers.items (λ (l : Vec (Vec (Edge Label) Global) Global). map vec_items (vec_items l))) within in
      let there : slice_get (map vec_items (layer_at graph depth)) state ≡ Some edges = subst (λ l. slice_get l state ≡ Some edges) layer_here at_state in
      let inside : state < length (layer_at graph depth) = subst (λ n. state < n) (length-map (layer_at graph depth) vec_items)
      (slice_get_within (map vec_items (layer_at graph depth)) state edges there) in
      let logged = subst (AreEdgesLogged log.turns.items visits depth state)
      (get_or_from_slice_get (map vec_items (layer_at graph depth)) state edges [] there) (complete.edges depth low state inside) in
      let it = All-contains (λ (e : Edge Label). IsEdgeLogged log.turns.items (snapshot_at visits depth state) (snapshot_at visits (depth + 1) e.to) e.label)
      edges edge logged (contains_in edge edges is) in
      edge_run (snapshot_at visits depth state) (snapshot_at visits (suc depth) edge.to) edge.label
      (subst (λ n. IsEdgeLogged log.turns.items (snapshot_at visits depth state) (snapshot_at visits n edge.to) edge.label) (add-one depth) it)

  pub paths_run : ArePathsRuns plan graph
  paths_run =
      let boot = start (opening_host plan) in
      all_in (IsRunFromBoot plan graph) (paths_of graph)
      (runs_along plan graph.ends.items graph.held.items graph.maps.items log.snapshots.items (layers_of graph) (snapshot_at visits) edges_run 0 boot boot
      (record { which = 0; is = complete.start; by = is_log.boot }) (shown_by_alike plan log.snapshots.items 0 boot boot is_log.boot is_log.boot))
