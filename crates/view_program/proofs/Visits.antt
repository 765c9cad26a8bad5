-- Proofs that a run leaves the host's settings as they were, and that its outcomes are counted in the totals of all
-- runs.
use Rattle.std.proofs.Common.{◌≡◌, ℕ, List, [], ◌∷◌, ◌++◌, length, string_bytes, sym, ◌∙◌, ap, subst}
use Rattle.std.specs.declared.alloc.Global.{Global}
use Rattle.std.specs.declared.string.String.{String}
use Rattle.host_ledger.specs.View.{HostView}
use Rattle.realm_plan.specs.Plan.{Plan}
use Rattle.plan_replay.specs.Run.{map_text}
use Rattle.plan_replay.proofs.Settings.{fresh_like-run}
use Rattle.realm_host.specs.Recorded.{fresh_like}
use Rattle.realm_program.specs.Replay.{opening_host}
use Rattle.view_program.specs.Chosen.{IsChosenRun}
use Rattle.view_program.specs.Totals.{Visit, AreTotals, chosen_schedule}
use Rattle.view_program.proofs.Runs.{run_of_plan}
use Rattle.view_program.specs.declared.schedules.choice.Choice.{Choice}
use Rattle.plan_states.specs.declared.step_end.EndOfStep.{EndOfStep}
use Rattle.view_program.specs.declared.schedules.totals.Totals.{Totals}
use Rattle.view_program.specs.Exploring.{IsAdded}

-- a run leaves the host's settings as they were
pub opens_same :
    (plan : Plan) (fresh to : HostView) (choices : List Choice) (ends : List EndOfStep)
    → fresh ≡ opening_host plan → IsChosenRun plan fresh choices to ends → opening_host plan ≡ fresh_like to
opens_same plan fresh to choices ends opens is =
    let told = run_of_plan plan fresh choices to ends is in
    ap fresh_like (sym opens) ∙ fresh_like-run (record plan { order = chosen_schedule choices }) fresh to [] told.0 told.1

-- if the totals `new` count one run and its final map more than `old`, for as many builds as the plan has, `IsAdded`
-- holds of both
pub IsAdded-run :
    (plan : Plan) (host : HostView) (choices : List Choice) (ends : List EndOfStep) (map_of_it : String Global) (old new : Totals) (n : ℕ)
    → n ≡ length plan.builds → string_bytes map_of_it ≡ map_text host
    → ((visits : List Visit) → AreTotals n visits old → AreTotals n (visits ++ record { choices = choices; ends = ends; map = map_of_it } ∷ []) new)
    → IsAdded plan host choices ends old new
IsAdded-run plan host choices ends map_of_it old new n builds is_map counted = record {
  map = map_of_it;
  is_map = is_map;
  counted = λ visits are. subst (λ k. AreTotals k (visits ++ record { choices = choices; ends = ends; map = map_of_it } ∷ []) new) builds
      (counted visits (subst (λ k. AreTotals k visits old) (sym builds) are));
}
