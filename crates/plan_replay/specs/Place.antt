-- The cursor of a build in a plan: at the start of a run, and after the answer of each turn.
use Rattle.std.specs.Prelude.{ℕ, ◌+◌, ◌==◌, ◌&&◌, nat_lt, Bool, true, false, if◌then◌else◌, None}
use Rattle.plan_replay.specs.declared.answer.TurnAnswer.{TurnAnswer}
use Rattle.plan_replay.specs.declared.answer.TurnAnswer.TheVariants.{Refused}
use Rattle.plan_replay.specs.declared.place.PlanCursor.{PlanCursor}

-- the cursor at the start of a run: no step is done, and there is no mark
abbrev pub first_place : PlanCursor
first_place = record { done = 0; left = 0; mark = None }

-- The step number of the abort that follows a refused step of a build that gives up. The numbers of a plan's steps are
-- lower.
abbrev pub giving_up : ℕ
giving_up = 1025

abbrev pub is_refusal : TurnAnswer → Bool
is_refusal (Refused refusal) = true
is_refusal _ = false

-- The number of a build's next step, given whether builds give up, whether the last step was refused, and the last
-- step's number. If builds give up, a refused step of the plan is followed by the abort.
abbrev pub number_after : Bool → Bool → ℕ → ℕ
number_after gives_up refused done = if gives_up && (refused && nat_lt done giving_up) then giving_up else done + 1

-- The cursor after an answer: it is at the next step, unless the current step has undos left.
abbrev pub moved_on : Bool → TurnAnswer → PlanCursor → PlanCursor
moved_on gives_up answer place =
    if place.left == 0 then record place { done = number_after gives_up (is_refusal answer) place.done } else place
