-- A proof that in each run of a plan the mark in a build's cursor, if there is one, is a mark of that build.
use Rattle.std.proofs.Common.{◌≡◌, ℕ, zero, suc, ◌==◌, ◌-◌, Bool, true, false, List, [], ◌∷◌, get_or, set, replicate, Option, Some, None, Result, Ok, Err, inl, inr, sym, ap, subst}
use Rattle.std.specs.Bool.{OnTrue, OnFalse}
use Rattle.std.proofs.lemmas.Bool.{cases_eq}
use Rattle.std.proofs.lemmas.List.{get_or-set_other}
use Rattle.host_commands.specs.declared.cmd.Step.{Step}
use Rattle.host_commands.specs.declared.cmd.Step.TheVariants.{Ask, Undo, Abort, Mark as KeepMark, Back}
use Rattle.host_commands.specs.declared.refusal.Refusal.{Refusal}
use Rattle.host_ledger.specs.View.{HostView}
use Rattle.host_ledger.specs.declared.mark.Mark.{Mark}
use Rattle.realm_host.specs.Marked.{IsMarked}
use Rattle.realm_plan.specs.Asked.{asked}
use Rattle.realm_plan.specs.Plan.{Plan}
use Rattle.realm_plan.specs.declared.step.PlanStep.{PlanStep}
use Rattle.realm_program.specs.Replay.{opening_host}
use Rattle.plan_replay.specs.Place.{first_place, moved_on}
use Rattle.plan_replay.specs.Run.{Position, Turn, start, place_of, step_after, IsTurnOf, AreTurns}
use Rattle.plan_replay.specs.Turn.{last_mark, undos_to_go, IsOneOfMany, IsTurnOfMany, IsStepTurn}
use Rattle.plan_replay.specs.declared.answer.TurnAnswer.{TurnAnswer}
use Rattle.plan_replay.specs.declared.answer.TurnAnswer.TheVariants.{Nothing}
use Rattle.plan_replay.specs.declared.place.PlanCursor.{PlanCursor}
use Rattle.schedule_graph.proofs.Kept.{mark-moved_on}
use Rattle.plan_states.specs.Reached.{IsReached}

-- the mark, if there is one, is a mark of the build
abbrev pub IsOwn : ℕ → Option Mark → Type 0
IsOwn build None = Unit {0}
IsOwn build (Some mark) = mark.build ≡ build

abbrev pub OwnMarks : List PlanCursor → Type 0
OwnMarks places = (build : ℕ) → IsOwn build (place_of places build).mark

-- ---- a step

many_own : (count : Result ℕ Refusal) (host : HostView) (build : ℕ) (place : PlanCursor) (answer : TurnAnswer) (new : HostView) (after : PlanCursor)
    → IsTurnOfMany count host build place answer new after → after.mark ≡ place.mark
many_own (Err refusal) host build place answer new after is = ap (λ (p : PlanCursor). p.mark) is.2
many_own (Ok count) host build place answer new after is =
    elim (count == 0) as (λ t. OnTrue t ((answer ≡ Nothing) × (new ≡ host) × (after ≡ place)) × OnFalse t (IsOneOfMany host build place (count - 1) answer new after) → after.mark ≡ place.mark) [
      | true ↦ λ (none, _). ap (λ (p : PlanCursor). p.mark) none.2
      | false ↦ λ (_, one). ap (λ (p : PlanCursor). p.mark) one.place_is
    ] is

marked_own : (host : HostView) (build : ℕ) (before : Option Mark) (result : Result Mark Refusal) (new : HostView) → IsMarked host build result new
    → IsOwn build before → IsOwn build (last_mark before result)
marked_own host build before (Err refusal) new is own = own
marked_own host build before (Ok mark) new is own = ap (λ (m : Mark). m.build) is.1.mark_is

step_own : (host : HostView) (build : ℕ) (place : PlanCursor) (step : Step) (answer : TurnAnswer) (new : HostView) (after : PlanCursor)
    → IsStepTurn host build place step answer new after → IsOwn build place.mark → IsOwn build after.mark
step_own host build place (Ask cmd) answer new after is own = subst (λ (p : PlanCursor). IsOwn build p.mark) (sym is.1) own
step_own host build place Undo answer new after is own = subst (λ (p : PlanCursor). IsOwn build p.mark) (sym is.1) own
step_own host build place Abort answer new after is own =
    subst (IsOwn build) (sym (many_own is.count is.begun build place answer new after is.is_turn)) own
step_own host build place KeepMark answer new after is own =
    subst (λ (p : PlanCursor). IsOwn build p.mark) (sym is.place_is) (marked_own host build place.mark is.result new is.is_marked own)
step_own host build place Back answer new after is own =
    subst (IsOwn build) (sym (many_own (undos_to_go host build place) host build place answer new after is)) own

-- ---- turns

at_set : (build : ℕ) (places : List PlanCursor) (k : ℕ) (place : PlanCursor) → IsOwn build place.mark
    → IsOwn build (get_or (set places k place) k first_place).mark
at_set build [] k place own = tt
at_set build (p ∷ places) zero place own = own
at_set build (p ∷ places) (suc k) place own = at_set build places k place own

turn_own : (gives_up : Bool) (step : Option PlanStep) (from : Position) (turn : Turn) (to : Position) → IsTurnOf gives_up step from turn to → OwnMarks from.places → OwnMarks to.places
turn_own gives_up None from turn to is own build = subst (λ (p : Position). IsOwn build (place_of p.places build).mark) (sym is.1) (own build)
turn_own gives_up (Some step) from turn to (answer, after, told, is_step, places) own build =
    let b = turn.build in
    let moved : IsOwn b (moved_on gives_up answer after).mark =
    subst (IsOwn b) (sym (mark-moved_on gives_up answer after)) (step_own from.host b (place_of from.places b) (asked step) answer to.host after is_step (own b)) in
    subst (λ ps. IsOwn build (get_or ps build first_place).mark) (sym places)
    (elim (cases_eq build b) as (λ _. IsOwn build (get_or (set from.places b (moved_on gives_up answer after)) build first_place).mark) [
      | inl same ↦ subst (λ k. IsOwn k (get_or (set from.places b (moved_on gives_up answer after)) k first_place).mark) (sym same) (at_set b from.places b (moved_on gives_up answer after) moved)
      | inr other ↦ subst (λ (p : PlanCursor). IsOwn build p.mark) (sym (get_or-set_other from.places b build (moved_on gives_up answer after) first_place other)) (own build)
    ])

turns_own : (plan : Plan) (schedule : List ℕ) (from : Position) (turns : List Turn) (to : Position) → AreTurns plan schedule from turns to → OwnMarks from.places → OwnMarks to.places
turns_own plan [] from [] to is own = subst (λ (p : Position). OwnMarks p.places) (sym is) own
turns_own plan [] from (turn ∷ turns) to is own = absurd is
turns_own plan (build ∷ schedule) from [] to is own = absurd is
turns_own plan (build ∷ schedule) from (turn ∷ turns) to (of_build, between, is_turn, more) own =
    turns_own plan schedule between turns to more
    (turn_own plan.gives_up (step_after plan turn.build (place_of from.places turn.build).done) from turn between is_turn own)

at_start : (build n k : ℕ) → IsOwn build (get_or (replicate n first_place) k first_place).mark
at_start build zero k = tt
at_start build (suc n) zero = tt
at_start build (suc n) (suc k) = at_start build n k

pub own_reached : (plan : Plan) (schedule : List ℕ) (at : Position) → IsReached plan schedule at → OwnMarks at.places
own_reached plan schedule at reached = turns_own plan schedule (start (opening_host plan)) reached.turns at reached.are_turns (λ build. at_start build 8 build)
