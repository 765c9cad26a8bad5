-- The condition that a `TurnTaken` record describes a turn in a run of a plan.
use Rattle.std.specs.Prelude.{◌≡◌, ℕ, List, Option, option_map, length}
use Rattle.host_ledger.specs.View.{world_of, pages_of_build}
use Rattle.realm_host.specs.Readings.{realm_at}
use Rattle.realm_plan.specs.Plan.{Plan}
use Rattle.realm_plan.specs.declared.step.PlanStep.{PlanStep}
use Rattle.plan_replay.specs.Run.{Position}
use Rattle.plan_replay.specs.declared.answer.TurnAnswer.{TurnAnswer}
use Rattle.plan_states.specs.Reached.{IsReached, IsTurnAt}
use Rattle.plan_states.specs.Turned.{turn_refusal, moved_after}
use Rattle.plan_states.specs.declared.running.TurnTaken.{TurnTaken}

-- The record `it` describes a turn of the build that leads from one position to the other. The record has the turn's
-- refusal, and the block that the turn moved. The VMID of the build's realm and the number of the build's pages are
-- those after the turn.
pub record IsTurnTaken (plan : Plan) (at : Position) (build : ℕ) (it : TurnTaken) (to : Position) : Type 0 where
  pub told : Option (PlanStep × TurnAnswer)
  pub is_taken : IsTurnAt plan at build (record { turn = record { build = build; told = told }; before = it.before; after = it.after }) to
  pub refusal : it.refusal ≡ turn_refusal told
  pub moved : it.moved ≡ moved_after (length at.host.history) to.host.history
  pub vmid : it.vmid ≡ option_map (λ realm. realm.1) (realm_at (world_of to.host) build)
  pub pages : it.pages ≡ length (pages_of_build to.host build)

-- in a run of the plan, this turn of the build comes right after the turns of the schedule
pub record IsTurnAfter (plan : Plan) (schedule : List ℕ) (build : ℕ) (it : TurnTaken) : Type 0 where
  pub at : Position
  pub reached : IsReached plan schedule at
  pub to : Position
  pub is_taken : IsTurnTaken plan at build it to
