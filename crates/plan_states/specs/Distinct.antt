-- The condition that no two step outcomes and no two page maps of a state graph are equal.
use Rattle.std.specs.Prelude.{◌≢◌, ℕ, ◌<◌, List, length, slice_index_or, string_bytes}
use Rattle.std.specs.declared.alloc.Global.{Global}
use Rattle.std.specs.declared.string.String.{String}
use Rattle.plan_states.specs.declared.graph.Graph.{Graph}
use Rattle.plan_states.specs.declared.step_end.EndOfStep.{EndOfStep}

-- the step outcome at this index differs from each one before it
abbrev pub IsNewEnd : List EndOfStep → ℕ → Type 0
IsNewEnd ends place = (before : ℕ) (d : EndOfStep) → before < place → slice_index_or ends before d ≢ slice_index_or ends place d

-- the map at this index differs from each map before it
abbrev pub IsNewMap : List (String Global) → ℕ → Type 0
IsNewMap maps place =
    (before : ℕ) (d : String Global) → before < place → string_bytes (slice_index_or maps before d) ≢ string_bytes (slice_index_or maps place d)

-- no two step outcomes are the same
abbrev pub AreEndsDistinct : List EndOfStep → Type 0
AreEndsDistinct ends = (place : ℕ) → place < length ends → IsNewEnd ends place

-- no two maps are the same
abbrev pub AreMapsDistinct : List (String Global) → Type 0
AreMapsDistinct maps = (place : ℕ) → place < length maps → IsNewMap maps place

-- the graph lists no step outcome twice, and no map twice
pub record IsGraphDistinct (graph : Graph) : Type 0 where
  pub ends : AreEndsDistinct graph.ends.items
  pub maps : AreMapsDistinct graph.maps.items
