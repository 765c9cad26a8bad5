-- A proof that the turn of a step does not yet count the step as done: the build's cursor is moved on only after the
-- turn.
use Rattle.std.proofs.Common.{◌≡◌, ℕ, List, length, slice_index_or, ◌<◌, ◌≤◌, ◌-◌, arith, ◌==◌, true, false, Result, Ok, Err, ap}
use Rattle.std.specs.Bool.{OnTrue, OnFalse}
use Rattle.std.proofs.lemmas.List.{get_or_default}
use Rattle.host_ledger.specs.View.{HostView}
use Rattle.host_commands.specs.declared.cmd.Step.{Step}
use Rattle.host_commands.specs.declared.cmd.Step.TheVariants.{Ask, Undo, Abort, Mark, Back}
use Rattle.host_commands.specs.declared.refusal.Refusal.{Refusal}
use Rattle.plan_replay.specs.Place.{first_place}
use Rattle.plan_replay.specs.Run.{place_of}
use Rattle.plan_replay.specs.Turn.{undos_to_go, IsOneOfMany, IsTurnOfMany, IsStepTurn}
use Rattle.plan_replay.specs.declared.answer.TurnAnswer.{TurnAnswer}
use Rattle.plan_replay.specs.declared.answer.TurnAnswer.TheVariants.{Nothing}
use Rattle.plan_replay.specs.declared.place.PlanCursor.{PlanCursor}

many_same_done :
    (count : Result ℕ Refusal) (host : HostView) (build : ℕ) (place : PlanCursor) (answer : TurnAnswer) (new : HostView) (after : PlanCursor)
    → IsTurnOfMany count host build place answer new after
    → after.done ≡ place.done
many_same_done (Err refusal) host build place answer new after is = ap (λ (p : PlanCursor). p.done) is.2
many_same_done (Ok count) host build place answer new after is =
    elim (count == 0) as (λ t. OnTrue t ((answer ≡ Nothing) × (new ≡ host) × (after ≡ place)) × OnFalse t (IsOneOfMany host build place (count - 1) answer new after) → after.done ≡ place.done) [
      | true ↦ λ (none, _). ap (λ (p : PlanCursor). p.done) none.2
      | false ↦ λ (_, one). ap (λ (p : PlanCursor). p.done) one.place_is
    ] is

pub same_done :
    (host : HostView) (build : ℕ) (place : PlanCursor) (step : Step) (answer : TurnAnswer) (new : HostView) (after : PlanCursor)
    → IsStepTurn host build place step answer new after
    → after.done ≡ place.done
same_done host build place (Ask cmd) answer new after is = ap (λ (p : PlanCursor). p.done) is.1
same_done host build place Undo answer new after is = ap (λ (p : PlanCursor). p.done) is.1
same_done host build place Abort answer new after is = many_same_done is.count is.begun build place answer new after is.is_turn
same_done host build place Mark answer new after is = ap (λ (p : PlanCursor). p.done) is.place_is
same_done host build place Back answer new after is = many_same_done (undos_to_go host build place) host build place answer new after is

-- in a list of eight cursors, the one at the index of a build is `place_of` of the build, whatever the lookup's default
-- is
pub place_is-place_of : (places : List PlanCursor) (build : ℕ) {n : ℕ} (read : PlanCursor) → build < n → n ≤ 8 → length places ≡ 8 → slice_index_or places build read ≡ place_of places build
place_is-place_of places build read inside few all = get_or_default places build read first_place (omega arith)
