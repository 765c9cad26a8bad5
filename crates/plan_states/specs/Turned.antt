-- A turn with its build's progress before and after it, and the outcome of the step that the turn ends.
use Rattle.std.specs.Prelude.{◌≡◌, ℕ, ◌==◌, ◌⊎◌, if◌then◌else◌, true, false, List, [], ◌∷◌, ◌++◌, Option, Some, None, option_and_then, slice_get}
use Rattle.realm_model.specs.declared.act.Act.{Act}
use Rattle.realm_model.specs.declared.act.Act.TheVariants.{Take, UnTake}
use Rattle.realm_model.specs.declared.act.Event.{Event}
use Rattle.host_commands.specs.declared.refusal.Refusal.{Refusal}
use Rattle.realm_plan.specs.declared.step.PlanStep.{PlanStep}
use Rattle.plan_replay.specs.Run.{Turn}
use Rattle.plan_replay.specs.declared.answer.TurnAnswer.{TurnAnswer}
use Rattle.plan_replay.specs.declared.answer.TurnAnswer.TheVariants.{Refused}
use Rattle.plan_states.specs.declared.running.TurnTaken.{TurnTaken}
use Rattle.plan_states.specs.declared.step_end.EndOfStep.{EndOfStep}
use Rattle.plan_states.specs.declared.turns.Moved.{Moved}

-- A turn, and how many steps its build had done before and after it.
pub record Taken : Type 0 where
  pub turn : Turn
  pub before : ℕ
  pub after : ℕ

abbrev pub told_refusal : TurnAnswer → Option Refusal
told_refusal (Refused refusal) = Some refusal
told_refusal _ = None

abbrev pub turn_refusal : Option (PlanStep × TurnAnswer) → Option Refusal
turn_refusal None = None
turn_refusal (Some told) = told_refusal told.1

-- the outcome of the step that a turn ends, if the turn ends one
abbrev pub end_of : Taken → Option EndOfStep
end_of taken =
    if taken.before == taken.after then None
    else Some (record { build = taken.turn.build; step = taken.before; refusal = turn_refusal taken.turn.told })

-- ---- a turn as the code records it

-- the outcome of the step that a recorded turn of the build ends, if the turn ends one
abbrev pub end_taken : ℕ → TurnTaken → Option EndOfStep
end_taken build it = if it.before == it.after then None else Some (record { build = build; step = it.before; refusal = it.refusal })

-- the block that an operation leases or gives back, or None if it does neither
abbrev pub moved_by : Act → Option Moved
moved_by (Take order first) = Some (record { is_back = false; order = order; first = first })
moved_by (UnTake order first) = Some (record { is_back = true; order = order; first = first })
moved_by _ = None

-- the block that the event at index `before` of the history leases or gives back; None if there is no such event or
-- block
abbrev pub moved_after : ℕ → List Event → Option Moved
moved_after before history = option_and_then (λ (event : Event). moved_by event.act) (slice_get history before)

-- the new list is the old one, either unchanged or with the given item at its end; without an item, it is unchanged
abbrev pub AreWith : {X : Type 0} → List X → Option X → List X → Type 0
AreWith items None new = new ≡ items
AreWith items (Some item) new = (new ≡ items) ⊎ (new ≡ items ++ item ∷ [])
