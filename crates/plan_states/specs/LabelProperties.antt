-- The properties of edge labels by which schedules are counted: a given outcome or map, or the refusal of a build's
-- step.
use Rattle.std.specs.Prelude.{ℕ, ◌==◌, Bool, true, false, ◌&&◌, List, Option, Some, None, is_some, slice_get}
use Rattle.plan_states.specs.declared.edges.Label.{Label}
use Rattle.plan_states.specs.declared.step_end.EndOfStep.{EndOfStep}

-- the optional number is present, and equals the given one
abbrev pub has_number : ℕ → Option ℕ → Bool
has_number number None = false
has_number number (Some other) = other == number

-- the build is the requested one, or no build is requested, which means all builds
abbrev pub is_asked : Option ℕ → ℕ → Bool
is_asked None build = true
is_asked (Some one) build = one == build

-- the outcome is a refusal of a step of the requested build, or of any build if none is requested
abbrev pub refuses_asked : Option ℕ → Option EndOfStep → Bool
refuses_asked asked None = false
refuses_asked asked (Some end) = is_some end.refusal && is_asked asked end.build

-- the outcome with this number is a refusal of a step of the requested build, or of any build if none is requested
abbrev pub end_is_refused : List EndOfStep → Option ℕ → Option ℕ → Bool
end_is_refused ends asked None = false
end_is_refused ends asked (Some number) = refuses_asked asked (slice_get ends number)

abbrev pub is_refusal_of : List EndOfStep → Option ℕ → Label → Bool
is_refusal_of ends asked label = end_is_refused ends asked label.end

-- the outcome is a refusal of this step of the build
abbrev pub refuses_step : ℕ → ℕ → Option EndOfStep → Bool
refuses_step build step None = false
refuses_step build step (Some end) = is_some end.refusal && end.build == build && end.step == step
