-- Rules that say which builds have a step left, the schedules that a rule allows, and the condition that a rule agrees
-- with a state graph's paths.
use Rattle.std.specs.Prelude.{◌≡◌, ◌<◌, ◌==◌, ◌&&◌, ◌+◌, ℕ, zero, suc, Bool, true, false, List, [], ◌∷◌, ◌++◌, map, filter, Contains, count_by, fold, Option, Some, None, is_some, option_to_list, slice_get, slice_index_or}
use Rattle.std.specs.List.{find, flat_map, range_with_len}
use Rattle.realm_plan.specs.Plan.{Plan}
use Rattle.plan_replay.specs.Place.{number_after}
use Rattle.plan_replay.specs.Run.{step_after}
use Rattle.schedule_graph.specs.Paths.{Layer, Path}
use Rattle.plan_states.specs.Tallies.{builds_of_path, layers_of, paths_of}
use Rattle.plan_states.specs.Whole.{number_by, takes_many}
use Rattle.plan_states.specs.declared.edges.Label.{Label}
use Rattle.plan_states.specs.declared.graph.Graph.{Graph}
use Rattle.plan_states.specs.declared.step_end.EndOfStep.{EndOfStep}

-- The schedule is allowed after the turns `before` by the rule `left`, which says of each build whether it has a step
-- left after given turns. Each turn is of a build that has a step left then, and no build has one in the end.
abbrev pub IsSchedule : (List ℕ → ℕ → Bool) → List ℕ → List ℕ → Type 0
IsSchedule left before [] = (build : ℕ) → build < 8 → left before build ≡ false
IsSchedule left before (build ∷ schedule) = (build < 8) × (left before build ≡ true) × IsSchedule left (before ++ build ∷ []) schedule

-- the schedules that begin with one of the builds and continue as `next` says for that build; only the empty schedule
-- if there are no builds
abbrev pub by_builds : (ℕ → List (List ℕ)) → List ℕ → List (List ℕ)
by_builds next [] = [] ∷ []
by_builds next (build ∷ builds) = flat_map (λ b. map (λ schedule. b ∷ schedule) (next b)) (build ∷ builds)

-- all schedules that a rule allows after given turns, with at most `most` further turns, in ascending order
abbrev pub schedules_after : (List ℕ → ℕ → Bool) → ℕ → List ℕ → List (List ℕ)
schedules_after left zero before = by_builds (λ build. []) (filter (left before) (range_with_len 0 8))
schedules_after left (suc most) before =
    by_builds (λ build. schedules_after left most (before ++ build ∷ [])) (filter (left before) (range_with_len 0 8))

-- ---- rules of a graph

-- the number of steps that a build finishes in the turns of a path
abbrev pub used_by : Path Label → ℕ → ℕ
used_by path build = count_by (λ edge. build == edge.label.build && is_some edge.label.end) path

-- The index of a build's next step after the turns of a path. In a plan whose builds do not give up, this index is the
-- number of steps that the build finishes in these turns.
abbrev pub done_by : Plan → Graph → Path Label → ℕ → ℕ
done_by plan graph path build = fold (λ done edge. number_by plan graph.ends.items build done edge.label) 0 path

-- After each initial part of a path of the graph, the rule says correctly which builds have a step left.
abbrev pub IsRuleOf : Plan → Graph → (List ℕ → ℕ → Bool) → Type 0
IsRuleOf plan graph left =
    (front rest : Path Label) → Contains (paths_of graph) (front ++ rest)
    → (build : ℕ) → build < 8 → left (builds_of_path front) build ≡ is_some (step_after plan build (done_by plan graph front build))

-- the path from a state along edges of the given builds, in sequence, up to the first build without such an edge
abbrev pub turns_from : List (Layer Label) → ℕ → ℕ → List ℕ → Path Label
turns_from layers depth state [] = []
turns_from layers depth state (build ∷ schedule) =
    elim (find (λ edge. edge.label.build == build) (slice_index_or (slice_index_or layers depth []) state [])) [
      | Some edge ↦ edge ∷ turns_from layers (depth + 1) edge.to schedule
      | None ↦ []
    ]

-- by the graph's own rule, a build has a step left after the turns `before` if it has one at the end of the path of
-- these turns
abbrev pub own_rule : Plan → Graph → List ℕ → ℕ → Bool
own_rule plan graph before build = is_some (step_after plan build (done_by plan graph (turns_from (layers_of graph) 0 0 before) build))

-- ---- plans in which each step takes one turn

-- each step takes one turn: none is `abort` or `back`, and no build gives up
abbrev pub HasSingleTurns : Plan → Type 0
HasSingleTurns plan = (build done : ℕ) → takes_many (step_after plan build done) ≡ false

-- the rule for a plan whose steps each take one turn: a build has a step left if it has had fewer turns than steps
abbrev pub by_turns : Plan → List ℕ → ℕ → Bool
by_turns plan before build = is_some (step_after plan build (count_by (λ turn. build == turn) before))

-- ---- the step outcomes of a path

-- the step outcome with this number as a list of one element, or the empty list if there is no such outcome
abbrev pub end_at : List EndOfStep → Option ℕ → List EndOfStep
end_at ends None = []
end_at ends (Some number) = option_to_list (slice_get ends number)

-- the outcomes of the steps that builds finish in the turns of a path
abbrev pub ends_of_path : List EndOfStep → Path Label → List EndOfStep
ends_of_path ends path = flat_map (λ edge. end_at ends edge.label.end) path

-- the outcomes of the steps that a build finishes in the turns of a path
abbrev pub ends_of : List EndOfStep → ℕ → Path Label → List EndOfStep
ends_of ends build path = filter (λ end. end.build == build) (ends_of_path ends path)

-- the indices of the steps that a build finishes in the turns of a path, in sequence
abbrev pub steps_ended : List EndOfStep → ℕ → Path Label → List ℕ
steps_ended ends build path = map (λ end. end.step) (ends_of ends build path)

-- The outcomes belong to the build's steps in sequence, from step `number` on, until no step is left. After a refusal
-- the next step of a build that gives up is its abort.
abbrev pub AreInSequence : Plan → ℕ → ℕ → List EndOfStep → Type 0
AreInSequence plan build number [] = is_some (step_after plan build number) ≡ false
AreInSequence plan build number (end ∷ ends) =
    (end.step ≡ number) × AreInSequence plan build (number_after plan.gives_up (is_some end.refusal) number) ends
