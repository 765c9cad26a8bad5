-- The first state of a plan's runs, and the builds that have a step left in a state.
use Rattle.std.specs.Prelude.{◌≡◌, ◌<◌, ℕ, Bool, false, map, is_some, None, slice_index_or}
use Rattle.std.specs.List.{range_with_len}
use Rattle.realm_plan.specs.Plan.{Plan}
use Rattle.plan_replay.specs.Run.{step_after}
use Rattle.plan_states.specs.declared.state.BuildState.{BuildState}
use Rattle.plan_states.specs.declared.state.State.{State}

-- the state of a build before its first turn: no step done, no VMID, no page, and the build's number as the index of
-- its past turns
abbrev pub at_rest : ℕ → BuildState
at_rest build = record { did = build; done = 0; vmid = None; pages = 0 }

-- the state of a run before its first turn: no build has done anything
abbrev pub first_state : State
first_state = record { builds = map at_rest (range_with_len 0 8); blocks = 0 }

-- the build has a step left in the state
abbrev pub state_has_left : Plan → State → ℕ → Bool
state_has_left plan state build = is_some (step_after plan build (slice_index_or state.builds build (at_rest build)).done)

-- no build has a step left in the state
abbrev pub AreAllDone : Plan → State → Type 0
AreAllDone plan state = (build : ℕ) → build < 8 → state_has_left plan state build ≡ false
