-- Schedules that give each build all the turns that it needs: in rotation, or one build after another.
use Rattle.std.specs.Prelude.{◌≡◌, ℕ, ◌+◌, ◌&&◌, nat_le, Bool, List, [], ◌∷◌, All, Option, Some, None}
use Rattle.std.specs.List.{find, range_with_len}
use Rattle.std.specs.Option.{option_or}
use Rattle.host_ledger.specs.View.{HostView}
use Rattle.realm_plan.specs.Plan.{Plan}
use Rattle.view_program.specs.Chosen.{could, builds_left, lowest_of, Stage, AreChosen, IsChosenRun}
use Rattle.view_program.specs.Totals.{chosen_schedule}
use Rattle.view_program.specs.declared.schedules.choice.Choice.{Choice}
use Rattle.plan_states.specs.declared.step_end.EndOfStep.{EndOfStep}

-- the lowest-numbered build that is not below `from` and has a step left, if there is one
abbrev pub lowest_from : ℕ → List Bool → Option ℕ
lowest_from from left = find (λ build. nat_le from build && could left build) (range_with_len 0 8)

-- The build that has the next turn when the rotation has reached build `from`, if there is one. It is the
-- lowest-numbered build from there on that has a step left, or otherwise the lowest-numbered of all with a step left.
unfoldable pub in_rotation : ℕ → List Bool → Option ℕ
in_rotation from left = option_or (lowest_from from left) (lowest_of left)

-- Each turn goes to the next build with a step left, in rotation from build `from` on.
abbrev pub AreInRotation : ℕ → List Choice → Type 0
AreInRotation from [] = Unit {0}
AreInRotation from (choice ∷ choices) =
    (in_rotation from choice.left ≡ Some choice.build) × AreInRotation (choice.build + 1) choices

-- Each turn goes to the lowest-numbered build that has a step left: a build has all its turns before the next has one.
abbrev pub AreOneByOne : List Choice → Type 0
AreOneByOne choices = All (λ choice. lowest_of choice.left ≡ Some choice.build) choices

-- The schedule is that of a complete run whose choices follow the rule. Each turn is of a build that has a step left,
-- and in the end no build has one.
pub record IsWholeSchedule (rule : List Choice → Type 0) (plan : Plan) (host : HostView) (schedule : List ℕ) : Type 0 where
  pub choices : List Choice
  pub to : HostView
  pub ends : List EndOfStep
  pub is_run : IsChosenRun plan host choices to ends
  pub by_rule : rule choices
  pub schedule_is : schedule ≡ chosen_schedule choices

-- From this stage on, builds take turns in rotation, from build 0 on, until none has a step left. The choices lead to
-- `to`.
pub record IsRotatedTo (plan : Plan) (from : Stage) (choices : List Choice) (to : Stage) : Type 0 where
  pub are_in_rotation : AreInRotation 0 choices
  pub chosen : AreChosen plan from choices to
  pub whole : lowest_of (builds_left plan to.at.places) ≡ None
