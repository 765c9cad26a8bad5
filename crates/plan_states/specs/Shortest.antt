-- The shortest schedules whose last turn has a given property, such as that a given step is refused.
use Rattle.std.specs.Prelude.{◌≡◌, ◌≢◌, ◌≤◌, ◌<◌, ℕ, ◌+◌, ◌⊎◌, Bool, true, false, List, [], ◌∷◌, ◌++◌, length, map, sum, take, Vec, vec_items, option_map, Option, Some, None, slice_index_or}
use Rattle.std.specs.List.{list_any, position}
use Rattle.std.specs.declared.alloc.Global.{Global}
use Rattle.host_commands.specs.declared.refusal.Refusal.{Refusal}
use Rattle.host_ledger.specs.View.{HostView, pages_of_build}
use Rattle.realm_plan.specs.Plan.{Plan}
use Rattle.plan_replay.specs.Run.{Position}
use Rattle.schedule_graph.specs.Paths.{Layer, paths, shows}
use Rattle.schedule_graph.specs.declared.graph.Edge.{Edge}
use Rattle.plan_states.specs.Exploration.{IsGraphWithin}
use Rattle.plan_states.specs.Questions.{is_answer_at, is_of_shared, pages_of_builds}
use Rattle.plan_states.specs.Reached.{IsReached, IsTurnAt, is_left}
use Rattle.plan_states.specs.Tallies.{PathCount, layers_of, tally_of}
use Rattle.plan_states.specs.Turned.{Taken, end_of}
use Rattle.plan_states.specs.declared.edges.Label.{Label}
use Rattle.plan_states.specs.declared.graph.Graph.{Graph}
use Rattle.plan_states.specs.declared.question.TurnQuestion.{TurnQuestion}
use Rattle.plan_states.specs.declared.question.TurnQuestion.TheVariants.{Refused, Waiting, Leased}
use Rattle.plan_states.specs.declared.shortest.Witness.{Witness}
use Rattle.plan_states.specs.declared.shortest.Witness.TheVariants.{Found, Never, TooMany}
use Rattle.plan_states.specs.declared.step_end.EndOfStep.{EndOfStep}

-- ---- runs

-- The outcome is a refusal of this step of the build.
pub record IsRefusal (build step : ℕ) (end : Option EndOfStep) : Type 0 where
  pub refusal : Refusal
  pub is_end : end ≡ Some (record { build = build; step = step; refusal = Some refusal })

-- A step of the build is refused for lack of a block or a VMID, and another build of the plan leases no page.
pub record IsWait (plan : Plan) (build : ℕ) (end : Option EndOfStep) (host : HostView) : Type 0 where
  pub step : ℕ
  pub refused : IsRefusal build step end
  pub shared : is_of_shared (Some refused.refusal) ≡ true
  pub other : ℕ
  pub of_plan : other < length plan.builds
  pub differs : other ≢ build
  pub at_rest : pages_of_build host other ≡ []

-- The answer to the question is yes for a turn, given the outcome of its step and the host after the turn.
abbrev pub Shows : Plan → TurnQuestion → Option EndOfStep → HostView → Type 0
Shows plan (Refused build step) end host = IsRefusal build step end
Shows plan (Waiting build) end host = IsWait plan build end host
Shows plan (Leased granules) end host = granules ≤ sum (pages_of_builds host)

-- In a run of the plan with this schedule, the answer to the question is yes for the last turn.
pub record EndsWithAnswer (plan : Plan) (question : TurnQuestion) (schedule : List ℕ) : Type 0 where
  pub before : List ℕ
  pub last : ℕ
  pub is_schedule : schedule ≡ before ++ last ∷ []
  pub at : Position
  pub reached : IsReached plan before at
  pub taken : Taken
  pub to : Position
  pub is_taken : IsTurnAt plan at last taken to
  pub shown : Shows plan question (end_of taken) to.host

-- The answer to the question is no for a turn that the build takes at the position.
pub record IsTurnWithoutAnswer (plan : Plan) (question : TurnQuestion) (at : Position) (build : ℕ) : Type 0 where
  pub taken : Taken
  pub to : Position
  pub is_taken : IsTurnAt plan at build taken to
  pub not_shown : ¬ (Shows plan question (end_of taken) to.host)

-- After all turns but the last, the build of the last turn has no step left, or takes a turn for which the answer is
-- no.
pub record EndsWithoutAnswer (plan : Plan) (question : TurnQuestion) (schedule : List ℕ) : Type 0 where
  pub before : List ℕ
  pub last : ℕ
  pub is_schedule : schedule ≡ before ++ last ∷ []
  pub at : Position
  pub reached : IsReached plan before at
  pub none : (is_left plan at.places last ≡ false) ⊎ IsTurnWithoutAnswer plan question at last

-- the schedule is empty, or satisfies `EndsWithoutAnswer` for the question
abbrev pub IsUnanswered : Plan → TurnQuestion → List ℕ → Type 0
IsUnanswered plan question schedule = (schedule ≡ []) ⊎ EndsWithoutAnswer plan question schedule

-- ---- the graph

-- some edge of the layer has a label that satisfies `is`
abbrev pub layer_shows : (Label → Bool) → List (Vec (Edge Label) Global) → Bool
layer_shows is layer = list_any (λ edges. shows is (vec_items edges)) layer

-- the index of the first layer with an edge whose label satisfies `is`, if there is one
abbrev pub first_layer : (Label → Bool) → List (Vec (Vec (Edge Label) Global) Global) → Option ℕ
first_layer is layers = position (λ layer. layer_shows is (vec_items layer)) layers

-- some edge of some layer has a label that satisfies `is`
abbrev pub any_layer_shows : (Label → Bool) → List (Vec (Vec (Edge Label) Global) Global) → Bool
any_layer_shows is layers = list_any (λ layer. layer_shows is (vec_items layer)) layers

-- the layers up to `depth`, followed by the states of the next layer without edges, so that paths end there
abbrev pub cut_after : ℕ → List (Layer Label) → List (Layer Label)
cut_after depth layers = take (depth + 1) layers ++ map (λ edges. []) (slice_index_or layers (depth + 1) []) ∷ []

-- the tally of the paths with a label that satisfies `is`, in a graph that is cut after a given layer; None if no layer
-- is given
abbrev pub tally_in : (Label → Bool) → TurnQuestion → List (Layer Label) → Option ℕ → Option (PathCount TurnQuestion)
tally_in is question layers None = None
tally_in is question layers (Some depth) = tally_of (shows is) question (paths (cut_after depth layers) 0)

-- the answer to the question is yes for the turn that the label describes, in a plan of `builds` builds
abbrev pub is_answer_in : Graph → ℕ → TurnQuestion → Label → Bool
is_answer_in graph builds question label = is_answer_at graph.ends.items graph.held.items builds question label

-- the answer to the question is yes for some turn of the graph
abbrev pub is_answered : Graph → ℕ → TurnQuestion → Bool
is_answered graph builds question = any_layer_shows (is_answer_in graph builds question) graph.layers.items

-- the tally of the graph's shortest paths to a turn for which the answer to the question is yes
abbrev pub shortest_tally : Graph → ℕ → TurnQuestion → Option (PathCount TurnQuestion)
shortest_tally graph builds question =
    let is = is_answer_in graph builds question in
    tally_in is question (layers_of graph) (first_layer is graph.layers.items)

-- ---- the witness

-- the answer is yes for the schedule's last turn, and the schedule is the first of the graph's shortest schedules with
-- that answer
pub record IsShortest (plan : Plan) (most : ℕ) (question : TurnQuestion) (schedule : List ℕ) : Type 0 where
  pub answers : EndsWithAnswer plan question schedule
  pub graph : Graph
  pub within : IsGraphWithin plan most graph
  pub is_first : option_map (λ (tally : PathCount TurnQuestion). tally.first) (shortest_tally graph (length plan.builds) question) ≡ Some schedule

-- the answer to the question is no for every turn of the graph
pub record IsNever (plan : Plan) (most : ℕ) (question : TurnQuestion) : Type 0 where
  pub graph : Graph
  pub within : IsGraphWithin plan most graph
  pub none : is_answered graph (length plan.builds) question ≡ false

abbrev pub IsWitness : Plan → ℕ → TurnQuestion → Witness → Type 0
IsWitness plan most question (Found schedule) = IsShortest plan most question schedule.items
IsWitness plan most question Never = IsNever plan most question
IsWitness plan most question TooMany = Unit {0}
