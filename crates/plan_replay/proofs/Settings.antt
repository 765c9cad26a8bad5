-- A proof that a run changes neither the limits of a host nor the capacity of the host's history.
use Rattle.std.proofs.Common.{◌≡◌, ℕ, ◌-◌, ◌==◌, Bool, true, false, List, [], ◌∷◌, Option, Some, None, Result, Ok, Err, ap, ap₂, sym, ◌∙◌}
use Rattle.std.specs.Bool.{OnTrue, OnFalse}
use Rattle.host_ledger.specs.View.{HostView}
use Rattle.host_ledger.specs.Booted.{booted}
use Rattle.host_ledger.specs.declared.mark.Mark.{Mark}
use Rattle.host_commands.specs.declared.cmd.Cmd.{Cmd}
use Rattle.host_commands.specs.declared.cmd.Step.{Step}
use Rattle.host_commands.specs.declared.cmd.Step.TheVariants.{Ask, Undo, Abort, Mark as KeepMark, Back}
use Rattle.host_commands.specs.declared.refusal.Refusal.{Refusal}
use Rattle.host_commands.specs.declared.reply.Reply.{Reply}
use Rattle.realm_model.specs.Machine.{Limits}
use Rattle.realm_host.specs.Abort.{IsBegun}
use Rattle.realm_host.specs.Answer.{IsAnswer, replied, undone}
use Rattle.realm_host.specs.Call as call
use Rattle.realm_host.specs.Marked.{IsMarked}
use Rattle.realm_host.specs.Recorded.{fresh_like}
use Rattle.host_commands.specs.declared.reply.Undone.{Undone}
use Rattle.realm_plan.specs.Asked.{asked}
use Rattle.realm_plan.specs.declared.step.PlanStep.{PlanStep}
use Rattle.realm_plan.specs.Plan.{Plan}
use Rattle.plan_replay.specs.Run.{Position, Turn, start, place_of, step_after, IsTurnOf, AreTurns, IsReportedRun}
use Rattle.plan_replay.specs.Turn.{undos_to_go, IsOneOfMany, IsTurnOfMany, IsToAbort, IsStepTurn}
use Rattle.plan_replay.specs.declared.answer.TurnAnswer.{TurnAnswer}
use Rattle.plan_replay.specs.declared.answer.TurnAnswer.TheVariants.{Nothing}
use Rattle.plan_replay.specs.declared.place.PlanCursor.{PlanCursor}

abbrev pub SameSettings : HostView → HostView → Type 0
SameSettings a b = (b.limits ≡ a.limits) × (b.capacity ≡ a.capacity)

equal_same : (a b : HostView) → b ≡ a → SameSettings a b
equal_same a b e = (ap (λ (h : HostView). h.limits) e, ap (λ (h : HostView). h.capacity) e)

-- ---- calls

command_same : (host : HostView) (build : ℕ) (cmd : Cmd) (result : Result Reply Refusal) (new : HostView) → IsAnswer host build (call.Ask cmd) (replied result) new → SameSettings host new
command_same host build cmd (Ok reply) new is = (ap (λ (h : HostView). h.limits) is.accepted.grows, ap (λ (h : HostView). h.capacity) is.accepted.grows)
command_same host build cmd (Err refusal) new is = equal_same host new is.1

undo_same : (host : HostView) (build : ℕ) (result : Result Undone Refusal) (new : HostView) → IsAnswer host build call.Undo (undone result) new → SameSettings host new
undo_same host build (Ok it) new is = (ap (λ (h : HostView). h.limits) is.accepted.grows, ap (λ (h : HostView). h.capacity) is.accepted.grows)
undo_same host build (Err refusal) new is = equal_same host new is.1

begin_same : (host : HostView) (build : ℕ) (result : Result ℕ Refusal) (new : HostView) → IsBegun host build result new → SameSettings host new
begin_same host build (Ok count) new is = (ap (λ (h : HostView). h.limits) is.1.new_is, ap (λ (h : HostView). h.capacity) is.1.new_is)
begin_same host build (Err refusal) new is = equal_same host new is.1

mark_same : (host : HostView) (build : ℕ) (result : Result Mark Refusal) (new : HostView) → IsMarked host build result new → SameSettings host new
mark_same host build (Ok mark) new is = (ap (λ (h : HostView). h.limits) is.1.new_is, ap (λ (h : HostView). h.capacity) is.1.new_is)
mark_same host build (Err refusal) new is = equal_same host new is.1

-- ---- turns

many_same :
    (count : Result ℕ Refusal) (host : HostView) (build : ℕ) (place : PlanCursor) (answer : TurnAnswer) (new : HostView) (after : PlanCursor)
    → IsTurnOfMany count host build place answer new after
    → SameSettings host new
many_same (Err refusal) host build place answer new after is = equal_same host new is.1
many_same (Ok count) host build place answer new after is =
    elim (count == 0) as (λ t. OnTrue t ((answer ≡ Nothing) × (new ≡ host) × (after ≡ place)) × OnFalse t (IsOneOfMany host build place (count - 1) answer new after) → SameSettings host new) [
      | true ↦ λ (none, _). equal_same host new none.1
      | false ↦ λ (_, one). undo_same host build one.result new one.is_answer
    ] is

to_abort_same : (host : HostView) (build : ℕ) (place : PlanCursor) (count : Result ℕ Refusal) (new : HostView) → IsToAbort host build place count new → SameSettings host new
to_abort_same host build place count new is =
    elim (place.left == 0) as (λ t. OnTrue t (IsBegun host build count new) × OnFalse t ((count ≡ Ok place.left) × (new ≡ host)) → SameSettings host new) [
      | true ↦ λ (begins, _). begin_same host build count new begins
      | false ↦ λ (_, goes_on). equal_same host new goes_on.1
    ] is

same_then : (a b c : HostView) → SameSettings a b → SameSettings b c → SameSettings a c
same_then a b c first next = (next.0 ∙ first.0, next.1 ∙ first.1)

step_same : (host : HostView) (build : ℕ) (place : PlanCursor) (step : Step) (answer : TurnAnswer) (new : HostView) (after : PlanCursor)
    → IsStepTurn host build place step answer new after → SameSettings host new
step_same host build place (Ask cmd) answer new after is = command_same host build cmd is.0.result new is.0.is_answer
step_same host build place Undo answer new after is = undo_same host build is.0.result new is.0.is_answer
step_same host build place Abort answer new after is =
    same_then host is.begun new (to_abort_same host build place is.count is.begun is.to_undo) (many_same is.count is.begun build place answer new after is.is_turn)
step_same host build place KeepMark answer new after is = mark_same host build is.result new is.is_marked
step_same host build place Back answer new after is = many_same (undos_to_go host build place) host build place answer new after is

turn_same : (gives_up : Bool) (step : Option PlanStep) (from : Position) (turn : Turn) (to : Position) → IsTurnOf gives_up step from turn to → SameSettings from.host to.host
turn_same gives_up None from turn to is = (ap (λ (p : Position). p.host.limits) is.1, ap (λ (p : Position). p.host.capacity) is.1)
turn_same gives_up (Some step) from turn to is = step_same from.host turn.build (place_of from.places turn.build) (asked step) is.0 to.host is.1 is.3

-- ---- runs

run_same : (plan : Plan) (order : List ℕ) (from : Position) (turns : List Turn) (to : Position) → AreTurns plan order from turns to → SameSettings from.host to.host
run_same plan [] from [] to is = (ap (λ (p : Position). p.host.limits) is, ap (λ (p : Position). p.host.capacity) is)
run_same plan [] from (t ∷ turns) to is = elim is [ ]
run_same plan (b ∷ order) from [] to is = elim is [ ]
run_same plan (b ∷ order) from (t ∷ turns) to is =
    same_then from.host is.1.host to.host (turn_same plan.gives_up (step_after plan t.build (place_of from.places t.build).done) from t is.1 is.2) (run_same plan order is.1 turns to is.3)

-- if a run leads from the host `from` to the host `to`, fresh hosts with the limits and the capacity of these two hosts
-- are equal
pub fresh_like-run : (plan : Plan) (from to : HostView) (old new : List ℕ) → IsReportedRun plan from to old new → fresh_like from ≡ fresh_like to
fresh_like-run plan from to old new told =
    let same = run_same plan plan.order (start from) told.turns told.end told.is_run in
    let last = equal_same told.end.host to (sym told.host) in
    sym (ap₂ (λ (limits : Limits) (capacity : ℕ). booted limits.pages limits.vmids limits.aux limits.builds capacity) (last.0 ∙ same.0) (last.1 ∙ same.1))
