-- A proof that each path in a plan's state graph is a run of the plan.
use Rattle.std.proofs.Common.{◌≡◌, ℕ, List, [], ◌∷◌, ◌++◌, map, Some, None, refl, sym, ◌∙◌, subst}
use Rattle.std.specs.Prelude.{slice_get}
use Rattle.std.specs.List.{AllByRecursion, flat_map}
use Rattle.std.proofs.lemmas.List.Concat.{flat_map-cons}
use Rattle.host_ledger.specs.View.{HostView}
use Rattle.realm_host.specs.Interleaving.{DifferInInterleaving}
use Rattle.realm_plan.specs.Plan.{Plan}
use Rattle.plan_replay.specs.Run.{Position, Turn}
use Rattle.schedule_graph.specs.State.{AreOneState}
use Rattle.schedule_graph.specs.Paths.{Layer, Path, paths_by_edges, paths}
use Rattle.schedule_graph.specs.Graph.{IsEdge, first_of, IsGraph, IsPathRun}
use Rattle.schedule_graph.specs.declared.graph.Edge.{Edge}
use Rattle.schedule_graph.proofs.States.{turn_too}

-- ---- one state is one with itself, the other way round, and from one to the next

differ_back : (host twin : HostView) → DifferInInterleaving host twin → DifferInInterleaving twin host
differ_back host twin d = record {
  same = record {
    legal = d.same.twin_legal;
    twin_legal = d.same.legal;
    limits = sym d.same.limits;
    events = λ b. sym (d.same.events b);
  };
  capacity = sym d.capacity;
  aborting = sym d.aborting;
  depths = sym d.depths;
}

differ_on : (host twin third : HostView) → DifferInInterleaving host twin → DifferInInterleaving twin third → DifferInInterleaving host third
differ_on host twin third d e = record {
  same = record {
    legal = d.same.legal;
    twin_legal = e.same.twin_legal;
    limits = e.same.limits ∙ d.same.limits;
    events = λ b. d.same.events b ∙ e.same.events b;
  };
  capacity = e.capacity ∙ d.capacity;
  aborting = e.aborting ∙ d.aborting;
  depths = e.depths ∙ d.depths;
}

pub same_back : (one other : Position) → AreOneState one other → AreOneState other one
same_back one other s = record { hosts = differ_back one.host other.host s.hosts; progress = sym s.progress; ways_back = λ b. sym (s.ways_back b) }

pub same_on : (one other third : Position) → AreOneState one other → AreOneState other third → AreOneState one third
same_on one other third s t = record {
  hosts = differ_on one.host other.host third.host s.hosts t.hosts;
  progress = t.progress ∙ s.progress;
  ways_back = λ b. t.ways_back b ∙ s.ways_back b;
}

-- ---- all of a list

all_append : {X : Type 0} (P : X → Type 0) (xs ys : List X) → AllByRecursion P xs → AllByRecursion P ys → AllByRecursion P (xs ++ ys)
all_append P [] ys h k = k
all_append P (x ∷ xs) ys h k = (h.0, all_append P xs ys h.1 k)

all_map : {X Y : Type 0} (P : X → Type 0) (Q : Y → Type 0) (f : X → Y) → ((x : X) → P x → Q (f x)) → (xs : List X) → AllByRecursion P xs → AllByRecursion Q (map f xs)
all_map P Q f h [] all = tt
all_map P Q f h (x ∷ xs) all = (h x all.0, all_map P Q f h xs all.1)

-- ---- paths

module _ (plan : Plan) where
  abbrev AllRun : List (Layer Turn) → List Position → Type 0
  AllRun layers states =
      (number : ℕ) (at q : Position) → slice_get states number ≡ Some at → AreOneState at q → AllByRecursion (IsPathRun plan q) (paths layers number)

  module _ (layers : List (Layer Turn)) (next : List Position) (run_on : AllRun layers next) (at q : Position) (same : AreOneState at q) where
    by_edge : (edge : Edge Turn) → IsEdge plan at next edge → AllByRecursion (IsPathRun plan q) (map (λ (path : Path Turn). edge ∷ path) (paths layers edge.to))
    by_edge edge is =
        let too = turn_too at q same plan edge.label is.to is.is_turn in
        let there = same_on is.state is.to too.then (same_back is.to is.state is.same) too.same in
        all_map (IsPathRun plan too.then) (IsPathRun plan q) (λ (path : Path Turn). edge ∷ path)
        (λ rest run. record { to = run.to; are_turns = (refl, too.then, too.is_turn, run.are_turns) })
        (paths layers edge.to) (run_on edge.to is.state too.then is.is_there there)

    by_each : (edges : List (Edge Turn)) → AllByRecursion (IsEdge plan at next) edges
        → AllByRecursion (IsPathRun plan q) (flat_map (λ (edge : Edge Turn). map (λ (path : Path Turn). edge ∷ path) (paths layers edge.to)) edges)
    by_each [] are = tt
    by_each (edge ∷ edges) are =
        subst (AllByRecursion (IsPathRun plan q)) (sym (flat_map-cons (λ (edge : Edge Turn). map (λ (path : Path Turn). edge ∷ path) (paths layers edge.to)) edge edges))
        (all_append (IsPathRun plan q) (map (λ (path : Path Turn). edge ∷ path) (paths layers edge.to)) _ (by_edge edge are.0) (by_each edges are.1))

    by_edges : (edges : List (Edge Turn)) → AllByRecursion (IsEdge plan at next) edges → AllByRecursion (IsPathRun plan q) (paths_by_edges (paths layers) edges)
    by_edges [] are = (record { to = q; are_turns = refl }, tt)
    by_edges (edge ∷ edges) are = by_each (edge ∷ edges) are

  pub are_runs : (states : List (List Position)) (layers : List (Layer Turn)) → IsGraph plan states layers → AllRun layers (first_of states)
  are_runs [] [] graph number at q there same = tt
  are_runs [] (layer ∷ layers) graph number at q there same = absurd graph
  are_runs (states ∷ rest) [] graph number at q there same = absurd graph
  are_runs (states ∷ rest) (layer ∷ layers) (edges_are, graph) number at q there same =
      elim (slice_get layer number) as (λ o. slice_get layer number ≡ o
      → AllByRecursion (IsPathRun plan q) (elim o [ Some edges ↦ paths_by_edges (paths layers) edges | None ↦ [] ])) [
        | Some edges ↦ λ is. by_edges layers (first_of rest) (are_runs rest layers graph) at q same edges (edges_are number at edges there is)
        | None ↦ λ is. tt
      ] refl
