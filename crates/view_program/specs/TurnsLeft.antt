-- An upper bound on the number of turns that a run can still have.
use Rattle.std.specs.Prelude.{◌≡◌, ℕ, ◌+◌, ◌-◌, ◌*◌, ◌^◌, ◌==◌, if◌then◌else◌, nat_lt, Bool, true, false, List, ◌∷◌, length, Option, Some, None}
use Rattle.realm_plan.specs.declared.step.PlanStep.{PlanStep}
use Rattle.realm_plan.specs.Plan.{Plan}
use Rattle.plan_replay.specs.Place.{giving_up}
use Rattle.plan_replay.specs.Turn.{undoes_many}
use Rattle.plan_replay.specs.Run.{place_of, step_after}
use Rattle.plan_replay.specs.declared.place.PlanCursor.{PlanCursor}

abbrev pub is_of_many : Option PlanStep → Bool
is_of_many None = false
is_of_many (Some step) = undoes_many step

-- There is a cursor for each of eight builds, and a build has undos left only in a step that can undo any number of
-- operations.
pub record AreSteady (plan : Plan) (places : List PlanCursor) : Type 0 where
  pub all : length places ≡ 8
  pub steady : (build : ℕ) → is_of_many (step_after plan build (place_of places build).done) ≡ false → (place_of places build).left ≡ 0

-- A bound on the number of steps that a build has left after the steps that it has done. A build that gives up can have
-- an abort beyond its steps.
abbrev pub steps_left : Bool → List PlanStep → ℕ → ℕ
steps_left false steps done = length steps - done
steps_left true steps done = if nat_lt done giving_up then length steps - done + 1 else giving_up + 1 - done

-- A bound on a build's further turns: 2 ^ 16 for each step left, except that a step with undos under way counts only
-- the undos that it has left.
abbrev pub turns_of_place : Bool → List PlanStep → PlanCursor → ℕ
turns_of_place gives_up steps place =
    let left = steps_left gives_up steps place.done in
    if place.left == 0 then left * 2 ^ 16 else (left - 1) * 2 ^ 16 + place.left

unfoldable pub turns_left : Bool → List (List PlanStep) → List PlanCursor → ℕ
turns_left gives_up (steps ∷ builds) (place ∷ places) = turns_of_place gives_up steps place + turns_left gives_up builds places
turns_left gives_up _ _ = 0
