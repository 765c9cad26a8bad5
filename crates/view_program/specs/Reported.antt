-- The outcomes of a run's steps, as the lines of the run's output report them.
use Rattle.std.specs.Prelude.{◌≡◌, ◌⊎◌, ℕ, List, [], ◌∷◌, map, None}
use Rattle.std.specs.List.{All, flat_map}
use Rattle.host_ledger.specs.View.{HostView}
use Rattle.realm_plan.specs.Plan.{Plan}
use Rattle.plan_replay.specs.Run.{Turn, Position, AreTurns, start}
use Rattle.view_program.specs.Chosen.{refusal_of_turn}
use Rattle.plan_states.specs.declared.step_end.EndOfStep.{EndOfStep}

-- a turn, with the outcome of its step if the turn ends the step
pub record Line : Type 0 where
  pub turn : Turn
  pub noted : List EndOfStep

-- The line notes one step outcome if its turn is refused, and otherwise at most one. The outcome has the turn's build,
-- and the refusal, if any.
abbrev pub IsEndOfTurn : Line → Type 0
IsEndOfTurn line = ((line.noted ≡ []) × (refusal_of_turn line.turn.told ≡ None))
    ⊎ ((step : ℕ) × (line.noted ≡ record { build = line.turn.build; step = step; refusal = refusal_of_turn line.turn.told } ∷ []))

-- A run of the plan leads from `host` to `to`, and the step outcomes noted at its turns are `ends`.
pub record AreTold (plan : Plan) (host to : HostView) (ends : List EndOfStep) : Type 0 where
  pub lines : List Line
  pub last : Position
  pub are_turns : AreTurns plan plan.order (start host) (map (λ (line : Line). line.turn) lines) last
  pub host_is : last.host ≡ to
  pub each : All IsEndOfTurn lines
  pub ends_are : ends ≡ flat_map (λ (line : Line). line.noted) lines
