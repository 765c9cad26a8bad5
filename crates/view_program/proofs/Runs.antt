-- Proofs that a plan's run in a chosen schedule is a run of the plan with this schedule as its `order`. The step
-- outcomes recorded in the run are those of its turns.
use Rattle.std.proofs.Common.{◌≡◌, ◌<◌, subst, None, inl, inr, ℕ, ◌==◌, Bool, true, false, if◌then◌else◌, List, [], ◌∷◌, ◌++◌, map, All, append_assoc, append-nil, refl, sym, ap, ◌∙◌}
use Rattle.std.proofs.lemmas.List.Elements.{All-nil, All-cons}
use Rattle.std.specs.List.{flat_map}
use Rattle.host_ledger.specs.View.{HostView}
use Rattle.realm_plan.specs.Plan.{Plan}
use Rattle.plan_replay.specs.Run.{Turn, AreTurns, place_of, turn_text, IsReportedRun}
use Rattle.view_program.specs.Chosen.{Stage, first_stage, ended, refusal_of_turn, AreChosen, IsChosenRun}
use Rattle.view_program.specs.Reported.{Line, IsEndOfTurn, AreTold}
use Rattle.view_program.specs.Totals.{chosen_schedule}
use Rattle.view_program.specs.TurnsLeft.{AreSteady}
use Rattle.view_program.proofs.Chosen.{could_is}
use Rattle.view_program.proofs.TurnsLeft.{steady_after, accepted_where_it_stays, first_steady}
use Rattle.view_program.specs.declared.schedules.choice.Choice.{Choice}
use Rattle.plan_states.specs.declared.step_end.EndOfStep.{EndOfStep}

turns_of : (plan : Plan) (schedule : List ℕ) (from : Stage) (choices : List Choice) (to : Stage) → AreChosen plan from choices to → (turns : List Turn) × AreTurns
    (record plan { order = schedule }) (chosen_schedule choices) from.at turns to.at
turns_of plan schedule from [] to are = ([], ap (λ (s : Stage). s.at) are)
turns_of plan schedule from (choice ∷ choices) to are =
    let later = turns_of plan schedule are.1 choices to are.3 in
    (are.2.turn ∷ later.0, (are.2.of_build, are.1.at, are.2.is_turn, later.1))

pub run_of_plan :
    (plan : Plan) (host : HostView) (choices : List Choice) (to : HostView) (ends : List EndOfStep)
    → IsChosenRun plan host choices to ends
    → (text : List ℕ) × IsReportedRun (record plan { order = chosen_schedule choices }) host to [] text
run_of_plan plan host choices to ends is =
    let turns = turns_of plan (chosen_schedule choices) _ choices is.last is.chosen in
    (flat_map turn_text turns.0, record { turns = turns.0; end = is.last.at; is_run = turns.1; host = is.host; appended = refl })

-- ---- what is noted of turns

abbrev end_of : Turn → ℕ → EndOfStep
end_of turn step = record { build = turn.build; step = step; refusal = refusal_of_turn turn.told }

noted_if : (turn : Turn) (before : ℕ) (stays : Bool)
    → (stays ≡ true → refusal_of_turn turn.told ≡ None)
    → IsEndOfTurn (record { turn = turn; noted = if stays then [] else end_of turn before ∷ [] })
noted_if turn before true accepted = inl (refl, accepted refl)
noted_if turn before false accepted = inr (before, refl)

record Noted (plan : Plan) (schedule : List ℕ) (from to : Stage) (choices : List Choice) : Type 0 where
  lines : List Line
  are_turns : AreTurns (record plan { order = schedule }) (chosen_schedule choices) from.at (map (λ (line : Line). line.turn) lines) to.at
  each : All IsEndOfTurn lines
  ends_are : to.ends ≡ from.ends ++ flat_map (λ (line : Line). line.noted) lines

noted : (plan : Plan) (schedule : List ℕ) (from : Stage) (choices : List Choice) (to : Stage) → AreSteady plan from.at.places → AreChosen plan from choices to → Noted plan schedule from to choices
noted plan schedule from [] to steady are = record {
  lines = [];
  are_turns = ap (λ (s : Stage). s.at) are;
  each = All-nil IsEndOfTurn;
  ends_are = ap (λ (s : Stage). s.ends) are ∙ sym (append-nil from.ends);
}
noted plan schedule from (choice ∷ choices) to steady are =
    let step = are.2 in
    let inside : step.turn.build < 8 = subst (λ b. b < 8) (sym step.of_build) (could_is plan from.at.places choice.left choice.build are.0.left are.0.could).0 in
    let later = noted plan schedule are.1 choices to (steady_after plan from.at step.turn are.1.at steady inside step.is_turn) are.3 in
    let accepted = accepted_where_it_stays plan from.at step.turn are.1.at steady inside step.is_turn in
    let line : Line = record { turn = step.turn; noted = ended step.turn (place_of from.at.places choice.build).done (place_of are.1.at.places choice.build).done } in
    record {
      lines = line ∷ later.lines;
      are_turns = (step.of_build, are.1.at, step.is_turn, later.are_turns);
      each = All-cons IsEndOfTurn line later.lines (noted_if step.turn (place_of from.at.places choice.build).done
          ((place_of from.at.places choice.build).done == (place_of are.1.at.places choice.build).done)
          (subst (λ b. ((place_of from.at.places b).done == (place_of are.1.at.places b).done) ≡ true → refusal_of_turn step.turn.told ≡ None) step.of_build accepted)) later.each;
      ends_are = later.ends_are ∙ ap (λ es. es ++ flat_map (λ (l : Line). l.noted) later.lines) step.noted ∙ append_assoc from.ends line.noted (flat_map (λ (l : Line). l.noted) later.lines);
    }

pub ends_told : (plan : Plan) (host : HostView) (choices : List Choice) (to : HostView) (ends : List EndOfStep)
    → IsChosenRun plan host choices to ends → AreTold (record plan { order = chosen_schedule choices }) host to ends
ends_told plan host choices to ends is =
    let all = noted plan (chosen_schedule choices) (first_stage host) choices is.last (first_steady plan) is.chosen in record {
      lines = all.lines;
      last = is.last.at;
      are_turns = all.are_turns;
      host_is = is.host;
      each = all.each;
      ends_are = sym is.ends ∙ all.ends_are;
    }
