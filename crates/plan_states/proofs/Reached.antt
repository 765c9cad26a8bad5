-- Lemmas on runs from boot: one more turn extends a run, the host keeps its settings, and all collected outcomes and
-- maps occur in runs.
use Rattle.std.proofs.Common.{◌≡◌, ℕ, ◌+◌, ◌<◌, ◌==◌, Bool, true, false, if◌then◌else◌, List, [], ◌∷◌, ◌++◌, length, get_or, take, All, Option, Some, None, inl, inr, refl, sym, subst, ap}
use Rattle.std.specs.List.{flat_map}
use Rattle.std.specs.Prelude.{string_bytes}
use Rattle.std.specs.declared.alloc.Global.{Global}
use Rattle.std.specs.declared.string.String.{String}
use Rattle.std.proofs.lemmas.List.{take_more}
use Rattle.std.proofs.lemmas.List.Elements.{All-nil, All-push}
use Rattle.host_commands.specs.declared.refusal.Refusal.{Refusal}
use Rattle.realm_host.specs.Recorded.{fresh_like}
use Rattle.realm_plan.specs.declared.step.PlanStep.{PlanStep}
use Rattle.realm_plan.specs.Plan.{Plan}
use Rattle.plan_replay.specs.Run.{Position, Turn, start, IsTurn, AreTurns, turn_text}
use Rattle.plan_replay.specs.declared.answer.TurnAnswer.{TurnAnswer}
use Rattle.plan_replay.proofs.Runs.{AreTurns-more}
use Rattle.plan_replay.proofs.Settings.{fresh_like-run}
use Rattle.realm_program.specs.Replay.{opening_host}
use Rattle.plan_states.specs.Exploration.{AreOfRuns}
use Rattle.plan_states.specs.Reached.{IsReached, IsEndOfRun, IsMapOfRun}
use Rattle.plan_states.specs.Turned.{turn_refusal, end_taken, AreWith}
use Rattle.plan_states.specs.TurnTaken.{IsTurnTaken}
use Rattle.plan_states.specs.declared.running.TurnTaken.{TurnTaken}
use Rattle.plan_states.specs.declared.step_end.EndOfStep.{EndOfStep}

-- ---- one more turn

pub reached_more :
    (plan : Plan) (schedule : List ℕ) (i : ℕ) (at to : Position) (told : Option (PlanStep × TurnAnswer))
    → i < length schedule → IsReached plan (take i schedule) at
    → IsTurn plan at (record { build = get_or schedule i 0; told = told }) to → IsReached plan (take (i + 1) schedule) to
reached_more plan schedule i at to told inside reached is_turn =
    let turn : Turn = record { build = get_or schedule i 0; told = told } in
    record {
      turns = reached.turns ++ turn ∷ [];
      are_turns = subst (λ o. AreTurns plan o (start (opening_host plan)) (reached.turns ++ turn ∷ []) to) (sym (take_more schedule i 0 inside))
          (AreTurns-more plan (take i schedule) (start (opening_host plan)) reached.turns at (get_or schedule i 0) turn to reached.are_turns refl is_turn);
    }

-- ---- the settings

-- if turns follow a given schedule in a plan, they also follow that schedule in the same plan with another key `order`
with_order : (plan : Plan) (all schedule : List ℕ) (from : Position) (turns : List Turn) (to : Position)
    → AreTurns plan schedule from turns to → AreTurns (record plan { order = all }) schedule from turns to
with_order plan all [] from [] to are = are
with_order plan all [] from (turn ∷ turns) to are = elim are [ ]
with_order plan all (build ∷ schedule) from [] to are = elim are [ ]
with_order plan all (build ∷ schedule) from (turn ∷ turns) to are = (are.0, are.1, are.2, with_order plan all schedule are.1 turns to are.3)

pub opens_reached : (plan : Plan) (schedule : List ℕ) (at : Position) → IsReached plan schedule at → opening_host plan ≡ fresh_like at.host
opens_reached plan schedule at reached =
    fresh_like-run (record plan { order = schedule }) (opening_host plan) at.host [] (flat_map turn_text reached.turns) (record {
      turns = reached.turns;
      end = at;
      is_run = with_order plan schedule schedule (start (opening_host plan)) reached.turns at reached.are_turns;
      host = refl;
      appended = refl;
    })

-- ---- ends

end_by : (plan : Plan) (none : Bool) (end : EndOfStep) (old new : List EndOfStep)
    → AreWith old (if none then None else Some end) new → (none ≡ false → IsEndOfRun plan end) → All (IsEndOfRun plan) old → All (IsEndOfRun plan) new
end_by plan true end old new same is all = subst (All (IsEndOfRun plan)) (sym same) all
end_by plan false end old new (inl same) is all = subst (All (IsEndOfRun plan)) (sym same) all
end_by plan false end old new (inr more) is all = subst (All (IsEndOfRun plan)) (sym more) (All-push (IsEndOfRun plan) old end all (is refl))

abbrev end_with : ℕ → ℕ → Option Refusal → EndOfStep
end_with build step refusal = record { build = build; step = step; refusal = refusal }

abbrev end_unless : Bool → EndOfStep → Option EndOfStep
end_unless none end = if none then None else Some end

end_is : (none : Bool) (build step : ℕ) (one other : Option Refusal) → none ≡ false → other ≡ one
    → end_unless none (end_with build step one) ≡ Some (end_with build step other)
end_is true build step one other free same = absurd cc
end_is false build step one other free same = ap (λ (r : Option Refusal). Some (end_with build step r)) (sym same)

-- if all collected outcomes occur in runs of the plan, all still do once a run's next turn adds its outcome, if any
pub ends_more :
    (plan : Plan) (schedule : List ℕ) (at to : Position) (build : ℕ) (it : TurnTaken) (old new : List EndOfStep)
    → IsReached plan schedule at → IsTurnTaken plan at build it to → AreWith old (end_taken build it) new
    → All (IsEndOfRun plan) old → All (IsEndOfRun plan) new
ends_more plan schedule at to build it old new reached is are all =
    let end : EndOfStep = record { build = build; step = it.before; refusal = it.refusal } in
    end_by plan (it.before == it.after) end old new are (λ free. record {
      schedule = schedule;
      at = at;
      reached = reached;
      taken = record { turn = record { build = build; told = is.told }; before = it.before; after = it.after };
      to = to;
      is_taken = is.is_taken;
      is_end = end_is (it.before == it.after) build it.before (turn_refusal is.told) it.refusal free is.refusal;
    }) all

-- the condition `AreOfRuns` holds of empty lists of outcomes and maps
pub of_runs-none : (plan : Plan) (ends : List EndOfStep) (maps : List (String Global)) → ends ≡ [] → maps ≡ [] → AreOfRuns plan ends maps
of_runs-none plan ends maps none empty = record {
  ends = subst (All (IsEndOfRun plan)) (sym none) (All-nil (IsEndOfRun plan));
  maps = subst (All (λ (map : String Global). IsMapOfRun plan (string_bytes map))) (sym empty) (All-nil (λ (map : String Global). IsMapOfRun plan (string_bytes map)));
}

map_by : (plan : Plan) (map : String Global) (old new : List (String Global)) → IsMapOfRun plan (string_bytes map) → AreWith old (Some map) new
    → All (λ (it : String Global). IsMapOfRun plan (string_bytes it)) old → All (λ (it : String Global). IsMapOfRun plan (string_bytes it)) new
map_by plan map old new is (inl same) all = subst (All (λ (it : String Global). IsMapOfRun plan (string_bytes it))) (sym same) all
map_by plan map old new is (inr more) all =
    subst (All (λ (it : String Global). IsMapOfRun plan (string_bytes it))) (sym more) (All-push (λ (it : String Global). IsMapOfRun plan (string_bytes it)) old map all is)

-- if all collected outcomes and maps occur in runs of the plan, all still do once the final map of a run is added
pub of_runs-map : (plan : Plan) (ends : List EndOfStep) (old new : List (String Global)) (map : String Global)
    → IsMapOfRun plan (string_bytes map) → AreWith old (Some map) new → AreOfRuns plan ends old → AreOfRuns plan ends new
of_runs-map plan ends old new map is with_it of = record { ends = of.ends; maps = map_by plan map old new is with_it of.maps }
