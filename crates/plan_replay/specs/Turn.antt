-- The effect and the answer of a turn, for each kind of step.
use Rattle.std.specs.Prelude.{◌≡◌, ℕ, ◌-◌, ◌==◌, Bool, true, false, if◌then◌else◌, Option, Some, None, Result, Ok, Err}
use Rattle.std.specs.Bool.{OnTrue, OnFalse}
use Rattle.host_ledger.specs.View.{HostView}
use Rattle.host_ledger.specs.declared.mark.Mark.{Mark}
use Rattle.host_commands.specs.declared.cmd.Cmd.{Cmd}
use Rattle.host_commands.specs.declared.cmd.Step.{Step}
use Rattle.host_commands.specs.declared.cmd.Step.TheVariants.{Ask, Undo, Abort, Mark as KeepMark, Back}
use Rattle.host_commands.specs.declared.refusal.Refusal.{Refusal}
use Rattle.host_commands.specs.declared.refusal.Refusal.TheVariants.{NothingToUndo}
use Rattle.host_commands.specs.declared.reply.Reply.{Reply}
use Rattle.realm_host.specs.Abort.{IsBegun}
use Rattle.realm_host.specs.Answer.{IsAnswer, replied, undone}
use Rattle.realm_host.specs.Call as call
use Rattle.realm_host.specs.Marked.{IsMarked, way_back}
use Rattle.host_commands.specs.declared.reply.Undone.{Undone}
use Rattle.realm_plan.specs.declared.step.PlanStep.{PlanStep}
use Rattle.realm_plan.specs.declared.step.PlanStep.TheVariants.{Whole}
use Rattle.plan_replay.specs.declared.answer.TurnAnswer.{TurnAnswer}
use Rattle.plan_replay.specs.declared.answer.TurnAnswer.TheVariants as tells
use Rattle.plan_replay.specs.declared.place.PlanCursor.{PlanCursor}

-- ---- steps that take one turn, with the answer of the host

-- the turn's answer to a command: the host's reply, or its refusal
abbrev pub answer_of_command : Result Reply Refusal → TurnAnswer
answer_of_command (Ok reply) = tells.Replied reply
answer_of_command (Err refusal) = tells.Refused refusal

pub record IsCommandTurn (host : HostView) (build : ℕ) (cmd : Cmd) (answer : TurnAnswer) (new : HostView) : Type 0 where
  pub result : Result Reply Refusal
  pub is_answer : IsAnswer host build (call.Ask cmd) (replied result) new
  pub told : answer ≡ answer_of_command result

abbrev pub answer_of_undo : Result Undone Refusal → TurnAnswer
answer_of_undo (Ok it) = tells.Undone it.kind
answer_of_undo (Err refusal) = tells.Refused refusal

pub record IsUndoTurn (host : HostView) (build : ℕ) (answer : TurnAnswer) (new : HostView) : Type 0 where
  pub result : Result Undone Refusal
  pub is_answer : IsAnswer host build call.Undo (undone result) new
  pub told : answer ≡ answer_of_undo result

-- the answer to a step `mark`: the number of operations open at the mark, or the refusal
abbrev pub answer_of_mark : Result Mark Refusal → TurnAnswer
answer_of_mark (Ok mark) = tells.Marked mark.length
answer_of_mark (Err refusal) = tells.Refused refusal

-- the build's last mark after a step `mark`; it stays the same if the step is refused
abbrev pub last_mark : Option Mark → Result Mark Refusal → Option Mark
last_mark before (Ok mark) = Some mark
last_mark before (Err refusal) = before

pub record IsMarkTurn (host : HostView) (build : ℕ) (place : PlanCursor) (answer : TurnAnswer) (new : HostView) (after : PlanCursor) : Type 0 where
  pub result : Result Mark Refusal
  pub is_marked : IsMarked host build result new
  pub told : answer ≡ answer_of_mark result
  pub place_is : after ≡ record place { mark = last_mark place.mark result }

-- ---- steps that take a turn for each undo

-- The step undoes any number of operations, one in each turn: it is an abort or a `back`.
abbrev pub undoes_many : PlanStep → Bool
undoes_many (Whole Abort) = true
undoes_many (Whole Back) = true
undoes_many _ = false

-- The answer to one of many undos: the kind of the undone operation and whether it was the last, or the refusal.
abbrev pub answer_of_one : ℕ → Result Undone Refusal → TurnAnswer
answer_of_one left (Ok it) = if left == 0 then tells.Ended it.kind else tells.Undone it.kind
answer_of_one left (Err refusal) = tells.Refused refusal

-- the number of undos that are left after one undo; 0 if the undo is refused
abbrev pub left_after : ℕ → Result Undone Refusal → ℕ
left_after left (Ok it) = left
left_after left (Err refusal) = 0

-- the turn tries one of a step's many undos; `left` more come after it, unless it is refused
pub record IsOneOfMany (host : HostView) (build : ℕ) (place : PlanCursor) (left : ℕ) (answer : TurnAnswer) (new : HostView) (after : PlanCursor) : Type 0 where
  pub result : Result Undone Refusal
  pub is_answer : IsAnswer host build call.Undo (undone result) new
  pub told : answer ≡ answer_of_one left result
  pub place_is : after ≡ record place { left = left_after left result }

-- A turn of a step that undoes many operations: one is undone, none is left to undo, or the turn is refused.
abbrev pub IsTurnOfMany : Result ℕ Refusal → HostView → ℕ → PlanCursor → TurnAnswer → HostView → PlanCursor → Type 0
IsTurnOfMany (Err refusal) host build place answer new after = (answer ≡ tells.Refused refusal) × (new ≡ host) × (after ≡ place)
IsTurnOfMany (Ok count) host build place answer new after =
    OnTrue (count == 0) ((answer ≡ tells.Nothing) × (new ≡ host) × (after ≡ place))
    × OnFalse (count == 0) (IsOneOfMany host build place (count - 1) answer new after)

-- In a turn of an abort, `count` is the number of operations left to undo, or the refusal of the abort. The host just
-- before the turn's undo is `new`. The first turn of an abort begins the abort.
abbrev pub IsToAbort : HostView → ℕ → PlanCursor → Result ℕ Refusal → HostView → Type 0
IsToAbort host build place count new =
    OnTrue (place.left == 0) (IsBegun host build count new)
    × OnFalse (place.left == 0) ((count ≡ Ok place.left) × (new ≡ host))

pub record IsAbortTurn (host : HostView) (build : ℕ) (place : PlanCursor) (answer : TurnAnswer) (new : HostView) (after : PlanCursor) : Type 0 where
  pub count : Result ℕ Refusal
  pub begun : HostView
  pub to_undo : IsToAbort host build place count begun
  pub is_turn : IsTurnOfMany count begun build place answer new after

-- the number of open operations that are newer than the build's last mark, or the refusal to go back to the mark
abbrev pub above_mark : HostView → ℕ → Option Mark → Result ℕ Refusal
above_mark host build (Some mark) = way_back host build mark
above_mark host build None = Err NothingToUndo

-- The number of operations that a step `back` has left to undo, or its refusal. In the first turn, these are the open
-- operations that are newer than the build's last mark.
abbrev pub undos_to_go : HostView → ℕ → PlanCursor → Result ℕ Refusal
undos_to_go host build place = if place.left == 0 then above_mark host build place.mark else Ok place.left

-- ---- a step's turn

-- A turn of the step has this answer, and leads to this host and this cursor.
abbrev pub IsStepTurn : HostView → ℕ → PlanCursor → Step → TurnAnswer → HostView → PlanCursor → Type 0
IsStepTurn host build place (Ask cmd) answer new after = IsCommandTurn host build cmd answer new × (after ≡ place)
IsStepTurn host build place Undo answer new after = IsUndoTurn host build answer new × (after ≡ place)
IsStepTurn host build place Abort answer new after = IsAbortTurn host build place answer new after
IsStepTurn host build place KeepMark answer new after = IsMarkTurn host build place answer new after
IsStepTurn host build place Back answer new after = IsTurnOfMany (undos_to_go host build place) host build place answer new after
