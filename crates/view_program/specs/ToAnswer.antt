-- A plan's text with a shortest schedule at whose end a given condition holds, or a line that says why no schedule is
-- given.
use Rattle.std.specs.Prelude.{◌≡◌, ◌⊎◌, ℕ, List, [], ◌∷◌, ◌++◌, codes, Ok}
use Rattle.std.specs.Fmt.{decimal}
use Rattle.realm_plan.specs.Plan.{Plan, plan_of}
use Rattle.plan_states.specs.Shortest.{EndsWithAnswer, IsNever, IsShortest}
use Rattle.plan_states.specs.StatesText.{too_many_line}
use Rattle.plan_states.specs.declared.question.TurnQuestion.{TurnQuestion}
use Rattle.plan_states.specs.declared.question.TurnQuestion.TheVariants as search
use Rattle.command_line.specs.declared.realmview.ScheduleQuestion.{ScheduleQuestion}
use Rattle.command_line.specs.declared.realmview.ScheduleQuestion.TheVariants.{Refused, Waiting, Leased}
use Rattle.view_program.specs.OrderText.{with_schedule, IsWithOrder}

-- a condition from the command line, in the form that the search for a schedule takes
abbrev pub question_of_options : ScheduleQuestion → TurnQuestion
question_of_options (Refused place) = search.Refused place.build place.step
question_of_options (Waiting build) = search.Waiting build
question_of_options (Leased granules) = search.Leased granules

-- ---- the line that says that no schedule answers the question

-- the line that says that a step of a build is refused in no schedule
abbrev pub never_refused_step_line : ℕ → ℕ → List ℕ
never_refused_step_line build step = codes "step " ++ (decimal build ++ (32 ∷ decimal step ++ codes " refused in 0\n"))

abbrev pub never_waiting_line : ℕ → List ℕ
never_waiting_line build = codes "build " ++ (decimal build ++ codes " waiting in 0\n")

abbrev pub never_leased_line : ℕ → List ℕ
never_leased_line granules = codes "leased " ++ (decimal granules ++ codes " in 0\n")

abbrev pub never_line : ScheduleQuestion → List ℕ
never_line (Refused place) = never_refused_step_line place.build place.step
never_line (Waiting build) = never_waiting_line build
never_line (Leased granules) = never_leased_line granules

-- ---- texts

-- The text is the plan's source text with this schedule put in. Read back, it is the plan with this schedule, at whose
-- end the condition holds.
pub record IsPlanTo (question : TurnQuestion) (source : List ℕ) (plan : Plan) (schedule text : List ℕ) : Type 0 where
  pub is_text : IsWithOrder schedule source text
  pub is_plan : plan_of text ≡ Ok (with_schedule schedule plan)
  pub answers : EndsWithAnswer (with_schedule schedule plan) question schedule

-- the text is the plan's source text, with the first of the shortest schedules at whose end the condition holds
pub record IsShortestPlan (most : ℕ) (question : TurnQuestion) (source : List ℕ) (plan : Plan) (text : List ℕ) : Type 0 where
  pub schedule : List ℕ
  pub shortest : IsShortest plan most question schedule
  pub is_plan : IsPlanTo question source plan schedule text

-- `IsShortestPlan` holds of the text, or the text is a line that says why no schedule is given. The line says that the
-- condition holds at the end of no schedule, or that there are more than `most` states.
abbrev pub IsAnswerText : ℕ → ScheduleQuestion → (source : List ℕ) → Plan → List ℕ → Type 0
IsAnswerText most asked source plan text =
    IsShortestPlan most (question_of_options asked) source plan text
    ⊎ ((IsNever plan most (question_of_options asked) × (text ≡ never_line asked))
    ⊎ (text ≡ too_many_line most))
