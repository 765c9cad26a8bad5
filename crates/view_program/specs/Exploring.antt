-- Definitions of totals that count one run more than earlier totals: the run's schedule, its step outcomes and its
-- final map.
use Rattle.std.specs.Prelude.{◌≡◌, List, [], ◌∷◌, ◌++◌, length, string_bytes}
use Rattle.std.specs.declared.alloc.Global.{Global}
use Rattle.std.specs.declared.string.String.{String}
use Rattle.host_ledger.specs.View.{HostView}
use Rattle.realm_plan.specs.Plan.{Plan}
use Rattle.plan_replay.specs.Run.{map_text}
use Rattle.realm_program.specs.Replay.{opening_host}
use Rattle.view_program.specs.Totals.{Visit, AreTotals}
use Rattle.view_program.specs.Drawn.{IsDrawn}
use Rattle.rand_core.specs.Stream.{Stream}
use Rattle.view_program.specs.declared.schedules.choice.Choice.{Choice}
use Rattle.plan_states.specs.declared.step_end.EndOfStep.{EndOfStep}
use Rattle.view_program.specs.declared.schedules.totals.Totals.{Totals}

-- The totals `new` count one run more than `old`: a run with these choices and step outcomes, and with the map of
-- `host`.
pub record IsAdded (plan : Plan) (host : HostView) (choices : List Choice) (ends : List EndOfStep) (old new : Totals) : Type 0 where
  pub map : String Global
  pub is_map : string_bytes map ≡ map_text host
  pub counted : (visits : List Visit) → AreTotals (length plan.builds) visits old
      → AreTotals (length plan.builds) (visits ++ record { choices = choices; ends = ends; map = map } ∷ []) new

-- `new` counts one run more than `old`: a run on a new host, in a schedule drawn from the stream.
pub record IsDrawnAndCounted (plan : Plan) (stream after : Stream) (old new : Totals) : Type 0 where
  pub visit : Visit
  pub is_drawn : IsDrawn plan (opening_host plan) stream visit after
  pub counted : (visits : List Visit) → AreTotals (length plan.builds) visits old → AreTotals (length plan.builds) (visits ++ visit ∷ []) new
