-- Proofs that the text appended for a turn is the turn's line, followed by the text of the RMM calls that belong to the
-- turn.
use Rattle.std.proofs.Common.{◌≡◌, ℕ, ◌≤◌, Bool, false, List, [], ◌∷◌, ◌++◌, length, Option, Some, None, refl, sym, ap, ◌∙◌, subst, append_assoc, append-nil}
use Rattle.std.specs.Prelude.{if◌then◌else◌, is_ok, slice_get, IfSome, OnOk, Result, Ok, Err}
use Rattle.std.proofs.lemmas.Option.{none-some}
use Rattle.command_line.specs.declared.realmview.CallsForm.{CallsForm}
use Rattle.command_line.specs.declared.realmview.CallsForm.TheVariants.{Trace}
use Rattle.history_calls.specs.Frame.{Place}
use Rattle.host_ledger.specs.View.{HostView}
use Rattle.realm_model.specs.declared.act.Event.{Event}
use Rattle.realm_plan.specs.Lines.{idle_line}
use Rattle.realm_plan.specs.Plan.{Plan}
use Rattle.realm_plan.specs.declared.step.PlanStep.{PlanStep}
use Rattle.plan_replay.specs.Run.{Position, Turn, place_of, step_after, turn_text, IsTurn, IsTurnOf}
use Rattle.view_program.specs.Calls.{comment_start, is_refused_by_rmm, AppendsCallsOfTurn, AppendsCallsOfEvent, AppendsTurnAndCalls, AreCallsOfEvent}

-- if `new` is `whole` for an `Ok` result, and `old` for an error, `OnOk` holds of the result and the statement that
-- `new` is `whole`
pub if_ok : {T E : Type 0} (result : Result T E) (new whole old : List ℕ) → new ≡ (if is_ok result then whole else old) → OnOk result (new ≡ whole)
if_ok (Ok done) new whole old is = is
if_ok (Err error) new whole old is = tt

module _ (frame : Place) (runs next : List (Option ℕ)) (host : HostView) where
  -- if the text of an event is appended to an empty text, the new text is that of the event
  event_alone : (event : Event) (old new : List ℕ) → old ≡ [] → AppendsCallsOfEvent frame runs next host event old new → AreCallsOfEvent frame runs next host event new
  event_alone event old new none it = subst (AreCallsOfEvent frame runs next host event) (sym (it.appended ∙ ap (λ (t : List ℕ). t ++ it.text) none)) it.is_text

  event_below : (event : Option Event) (old new : List ℕ) → old ≡ [] → IfSome event (λ it. AppendsCallsOfEvent frame runs next host it old new)
      → IfSome event (λ it. AreCallsOfEvent frame runs next host it new)
  event_below None old new none it = tt
  event_below (Some event) old new none it = event_alone event old new none it

  pub turn_and_calls : (form : CallsForm) (before : ℕ) (turn : Turn) (old mid empty below new : List ℕ) → empty ≡ [] → mid ≡ old ++ turn_text turn → new ≡ mid ++ below
      → (form ≡ Trace → IfSome (slice_get host.history before) (λ event. AppendsCallsOfEvent frame runs next host event empty below))
      → (length host.history ≤ before → is_refused_by_rmm turn.told ≡ false → below ≡ empty) → (length host.history ≤ before → next ≡ runs)
      → AppendsTurnAndCalls form frame runs next before host turn old new
  turn_and_calls form before turn old mid empty below new none line whole event nothing pages = record {
    below = below;
    is_below = record {
      event = λ is_trace. event_below (slice_get host.history before) empty below none (event is_trace);
      nothing = λ few told. nothing few told ∙ none;
      pages = pages;
    };
    appended = whole ∙ ap (λ (t : List ℕ). t ++ below) line ∙ append_assoc old (turn_text turn) below;
  }

-- ---- turns without a step

unchanged : (gives_up : Bool) (step : Option PlanStep) (from : Position) (turn : Turn) (to : Position) → turn.told ≡ None → IsTurnOf gives_up step from turn to → to ≡ from
unchanged gives_up None from turn to none is = is.1
unchanged gives_up (Some step) from turn to none is = absurd (none-some (step, is.0) (sym none ∙ is.2))

past : {X : Type 0} (items : List X) → slice_get items (length items) ≡ None
past [] = refl
past (item ∷ items) = past items

pub idle_turn : (form : CallsForm) (frame : Place) (plan : Plan) (runs : List (Option ℕ)) (from : Position) (build : ℕ) (to : Position) (old text new : List ℕ)
    → IsTurn plan from (record { build = build; told = None }) to → text ≡ old ++ comment_start form → new ≡ text ++ idle_line build
    → AppendsCallsOfTurn form frame plan runs runs from build to old new
idle_turn form frame plan runs from build to old text new is_turn begun ended =
    let same = unchanged plan.gives_up (step_after plan build (place_of from.places build).done) from (record { build = build; told = None }) to refl is_turn in
    let none : slice_get to.host.history (length from.host.history) ≡ None =
    ap (λ (at : Position). slice_get at.host.history (length from.host.history)) same ∙ past from.host.history in
    record {
      turn = record { build = build; told = None };
      of_build = refl;
      is_turn = is_turn;
      text = record {
        below = [];
        is_below = record {
          event = λ is_trace. subst (λ (event : Option Event). IfSome event (λ it. AreCallsOfEvent frame runs runs to.host it [])) (sym none) tt;
          nothing = λ few told. refl;
          pages = λ few. refl;
        };
        appended = ended ∙ (λ i. begun i ++ sym (append-nil (idle_line build)) i);
      };
    }
