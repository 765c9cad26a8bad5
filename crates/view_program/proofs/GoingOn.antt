-- The loop invariant of a run whose turns go to the lowest-numbered build with a step left, and proofs that each turn
-- preserves it.
use Rattle.std.proofs.Common.{◌≡◌, replicate, Bool, None, sym, subst, append_assoc, append-nil, List, [], ◌∷◌, ◌++◌, Some, All, refl, ap, ◌∙◌}
use Rattle.std.proofs.lemmas.List.Elements.{All-nil, All-push}
use Rattle.host_ledger.specs.View.{HostView}
use Rattle.realm_plan.specs.Plan.{Plan}
use Rattle.view_program.specs.Chosen.{builds_left, lowest_of, Stage, first_stage, IsStageTurn, AreChosen, IsChosenRun, GoesOnTo, stage_at}
use Rattle.view_program.specs.Rotation.{AreOneByOne}
use Rattle.view_program.proofs.Chosen.{lowest_is, AreChosen-more}
use Rattle.view_program.specs.declared.schedules.choice.Choice.{Choice}
use Rattle.plan_states.specs.declared.step_end.EndOfStep.{EndOfStep}
use Rattle.plan_replay.specs.Place.{first_place}
use Rattle.plan_replay.specs.declared.place.PlanCursor.{PlanCursor}

-- The choices so far are `front`, and then choices of the lowest build with a step left. The turns of these lead from
-- `from` to `to`.
pub record IsGoingOn (plan : Plan) (from : Stage) (front choices : List Choice) (to : Stage) : Type 0 where
  pub more : List Choice
  pub appended : choices ≡ front ++ more
  pub lowest : All (λ choice. lowest_of choice.left ≡ Some choice.build) more
  pub chosen : AreChosen plan from more to

pub IsGoingOn-none : (plan : Plan) (from : Stage) (front : List Choice) → IsGoingOn plan from front front from
IsGoingOn-none plan from front = record { more = []; appended = sym (append-nil front); lowest = All-nil (λ c. lowest_of c.left ≡ Some c.build); chosen = refl }

pub IsGoingOn-more :
    (plan : Plan) (from : Stage) (front choices : List Choice) (at : Stage) (choice : Choice) (to : Stage) (new : List Choice)
    → IsGoingOn plan from front choices at
    → choice.left ≡ builds_left plan at.at.places → lowest_of choice.left ≡ Some choice.build → IsStageTurn plan at choice.build to → new ≡ choices ++ choice ∷ []
    → IsGoingOn plan from front new to
IsGoingOn-more plan from front choices at choice to new is left lowest step pushed =
    record {
      more = is.more ++ choice ∷ [];
      appended = pushed ∙ ap (λ cs. cs ++ choice ∷ []) is.appended ∙ append_assoc front is.more (choice ∷ []);
      lowest = All-push (λ c. lowest_of c.left ≡ Some c.build) is.more choice is.lowest lowest;
      chosen = AreChosen-more plan from is.more at choice to is.chosen (record { left = left; could = lowest_is choice.left choice.build lowest }) step;
    }

pub GoesOnTo-whole :
    (plan : Plan) (from : Stage) (front choices : List Choice) (to : Stage) (left : List Bool)
    → IsGoingOn plan from front choices to → left ≡ builds_left plan to.at.places → lowest_of left ≡ None
    → GoesOnTo plan from front choices to
GoesOnTo-whole plan from front choices to left is same none =
    record { more = is.more; appended = is.appended; lowest = is.lowest; chosen = is.chosen; whole = subst (λ l. lowest_of l ≡ None) same none }

-- if `GoesOnTo` holds from the first stage on, with no earlier choices, the choices make a complete run, one build
-- after another
pub IsChosenRun-lowest :
    (plan : Plan) (host : HostView) (places : List PlanCursor) (noted : List EndOfStep) (before choices : List Choice) (to : Stage)
    → places ≡ replicate 8 first_place → noted ≡ [] → before ≡ []
    → GoesOnTo plan (stage_at host places noted) before choices to
    → AreOneByOne choices × IsChosenRun plan host choices to.at.host to.ends
IsChosenRun-lowest plan host places noted before choices to first none empty on =
    let from = stage_at host places noted in
    let begins : from ≡ first_stage host = λ i. record { at = record { host = host; places = first i }; ends = none i } in
    let all : choices ≡ on.more = on.appended ∙ ap (λ cs. cs ++ on.more) empty in (
      subst AreOneByOne (sym all) on.lowest,
      record {
        last = to;
        chosen = subst (λ cs. AreChosen plan (first_stage host) cs to) (sym all) (subst (λ s. AreChosen plan s on.more to) begins on.chosen);
        whole = on.whole;
        host = refl;
        ends = refl;
      },
    )
