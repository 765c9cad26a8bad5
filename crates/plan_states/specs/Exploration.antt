-- The correct results of exploring a plan's schedules: a whole state graph whose paths are runs, or `TooMany`.
use Rattle.std.specs.Prelude.{ℕ, ◌≤◌, List, All, sum_by, vec_len, string_bytes}
use Rattle.std.specs.declared.alloc.Global.{Global}
use Rattle.std.specs.declared.string.String.{String}
use Rattle.realm_plan.specs.Plan.{Plan}
use Rattle.plan_states.specs.Distinct.{IsGraphDistinct}
use Rattle.plan_states.specs.Reached.{IsEndOfRun, IsMapOfRun}
use Rattle.plan_states.specs.Runs.{ArePathsRuns}
use Rattle.plan_states.specs.Whole.{IsWholeGraph}
use Rattle.realm_program.specs.declared.fault.Fault.{Fault}
use Rattle.realm_program.specs.declared.fault.Fault.TheVariants.{Memory, Mismatch}
use Rattle.plan_states.specs.declared.graph.Exploration.{Exploration}
use Rattle.plan_states.specs.declared.graph.Exploration.TheVariants as explored
use Rattle.plan_states.specs.declared.graph.Graph.{Graph}
use Rattle.plan_states.specs.declared.step_end.EndOfStep.{EndOfStep}

-- Each outcome is the outcome of a step in some run of the plan, and each map is the final map of a run after which no
-- step is left.
pub record AreOfRuns (plan : Plan) (the_ends : List EndOfStep) (the_maps : List (String Global)) : Type 0 where
  pub ends : All (IsEndOfRun plan) the_ends
  pub maps : All (λ map. IsMapOfRun plan (string_bytes map)) the_maps

-- The graph's step outcomes and maps occur in runs of the plan, and the graph has at most `most` states.
pub record IsFound (plan : Plan) (most : ℕ) (graph : Graph) : Type 0 where
  pub of_runs : AreOfRuns plan graph.ends.items graph.maps.items
  pub states : sum_by vec_len graph.layers.items ≤ most

pub record IsGraphWithin (plan : Plan) (most : ℕ) (graph : Graph) : Type 0 where
  pub found : IsFound plan most graph
  pub whole : IsWholeGraph plan graph
  pub distinct : IsGraphDistinct graph
  pub runs : ArePathsRuns plan graph

abbrev pub IsExploration : Plan → ℕ → Exploration → Type 0
IsExploration plan most (explored.All graph) = IsGraphWithin plan most graph
IsExploration plan most explored.TooMany = Unit {0}

-- the fault is one of the two that end an exploration without a graph: a failed allocation, or results that contradict
-- each other
abbrev pub HasNoGraph : Fault → Type 0
HasNoGraph Memory = Unit {0}
HasNoGraph Mismatch = Unit {0}
HasNoGraph fault = ⊥
