-- A proof that each turn of an abort in a run reports correctly whether the abort is done.
use Rattle.std.proofs.Common.{◌≡◌, ◌≢◌, ℕ, zero, suc, ◌+◌, ◌-◌, ◌==◌, ◌<◌, Bool, true, false, cond, eqb, List, [], ◌∷◌, length, get_or, set, replicate, Option, Some, None, Result, Ok, Err, refl, sym, ap, ◌∙◌, subst, arith}
use Rattle.std.specs.Prelude.{nat_lt}
use Rattle.std.specs.Bool.{OnTrue, OnFalse}
use Rattle.std.proofs.lemmas.Bool.{eqb-true, eqb-false, lt-ltb, ltb-true, ltb-false}
use Rattle.std.proofs.lemmas.Option.{same_Some}
use Rattle.std.proofs.lemmas.List.{get_or-set_same, get_or-set_other, get_or_past, set_past}
use Rattle.host_ledger.specs.View.{HostView, world_of, open_of, is_aborting}
use Rattle.host_ledger.proofs.Worlds.{world_is}
use Rattle.host_commands.specs.declared.cmd.Step.{Step}
use Rattle.host_commands.specs.declared.cmd.Step.TheVariants.{Ask, Undo, Abort, Mark as KeepMark, Back}
use Rattle.host_commands.specs.declared.refusal.Refusal.{Refusal}
use Rattle.host_commands.specs.declared.reply.Undone.{Undone}
use Rattle.realm_model.specs.History.{IsLegal}
use Rattle.realm_model.specs.declared.act.Act.{Act}
use Rattle.realm_model.proofs.Emptied.{emptied}
use Rattle.realm_model.proofs.LeftOut.{noninterference}
use Rattle.realm_host.specs.Abort.{IsBegun}
use Rattle.realm_host.specs.Answer.{IsAnswer, replied, undone}
use Rattle.realm_host.specs.Call as call
use Rattle.realm_host.specs.Sharing.{AnsweredCall, Calls, Begins, Marks, IsAnsweredSo}
use Rattle.realm_host.proofs.Sharing.{Reached, starts, others_may, one_call, legal_answer, served, opened_by_others, one_less}
use Rattle.realm_plan.specs.Asked.{asked}
use Rattle.realm_plan.specs.declared.step.PlanStep.{PlanStep}
use Rattle.realm_plan.specs.declared.step.PlanStep.TheVariants.{Whole}
use Rattle.realm_plan.specs.Plan.{Plan}
use Rattle.plan_replay.specs.Aborts.{HasLeftNothing, ReportsOfAbort}
use Rattle.plan_replay.specs.Place.{first_place, is_refusal, moved_on, number_after}
use Rattle.plan_replay.specs.Run.{Position, Turn, start, place_of, step_after, IsTurnOf, IsTurn, AreTurns}
use Rattle.plan_replay.specs.Turn.{undos_to_go, answer_of_one, left_after, IsOneOfMany, IsTurnOfMany, IsAbortTurn, IsStepTurn}
use Rattle.plan_replay.specs.declared.answer.TurnAnswer.{TurnAnswer}
use Rattle.plan_replay.specs.declared.answer.TurnAnswer.TheVariants as tells
use Rattle.plan_replay.specs.declared.place.PlanCursor.{PlanCursor}
use Rattle.plan_replay.proofs.Turns.{same_done}

-- ---- a turn as calls of its build

abbrev AreCalls : HostView → ℕ → List AnsweredCall → HostView → Type 0
AreCalls host build [] new = new ≡ host
AreCalls host build (c ∷ cs) new = (then : HostView) × (IsAnsweredSo host build c then × AreCalls then build cs new)

record IsByCalls (host : HostView) (build : ℕ) (new : HostView) : Type 0 where
  calls : List AnsweredCall
  are : AreCalls host build calls new

no_call : (host : HostView) (build : ℕ) (new : HostView) → new ≡ host → IsByCalls host build new
no_call host build new same = record { calls = []; are = same }

-- if a call of the build leads from `host` to `then`, and calls of the build lead on to `new`, calls of the build lead
-- from `host` to `new`
and_then : (host : HostView) (build : ℕ) (c : AnsweredCall) (then new : HostView) → IsAnsweredSo host build c then → IsByCalls then build new → IsByCalls host build new
and_then host build c then new is rest = record { calls = c ∷ rest.calls; are = (then, (is, rest.are)) }

by_one : (host : HostView) (build : ℕ) (c : AnsweredCall) (new : HostView) → IsAnsweredSo host build c new → IsByCalls host build new
by_one host build c new is = and_then host build c new new is (no_call new build new refl)

many : (count : Result ℕ Refusal) (host : HostView) (build : ℕ) (place : PlanCursor) (answer : TurnAnswer) (new : HostView) (after : PlanCursor)
    → IsTurnOfMany count host build place answer new after → IsByCalls host build new
many (Err refusal) host build place answer new after is = no_call host build new is.1
many (Ok count) host build place answer new after is =
    elim (count == 0) as (λ t. OnTrue t ((answer ≡ tells.Nothing) × (new ≡ host) × (after ≡ place)) × OnFalse t (IsOneOfMany host build place (count - 1) answer new after) → IsByCalls host build new) [
      | true ↦ λ (none, _). no_call host build new none.1
      | false ↦ λ (_, one). by_one host build (Calls call.Undo (undone one.result)) new one.is_answer
    ] is

abort_calls : (host : HostView) (build : ℕ) (place : PlanCursor) (answer : TurnAnswer) (new : HostView) (after : PlanCursor) → IsAbortTurn host build place answer new after → IsByCalls host build new
abort_calls host build place answer new after is =
    let rest : IsByCalls is.begun build new = many is.count is.begun build place answer new after is.is_turn in
    elim (place.left == 0) as (λ t. OnTrue t (IsBegun host build is.count is.begun) × OnFalse t ((is.count ≡ Ok place.left) × (is.begun ≡ host)) → IsByCalls host build new) [
      | true ↦ λ (begins, _). and_then host build (Begins is.count) is.begun new begins rest
      | false ↦ λ (_, goes_on). subst (λ h. IsByCalls h build new) goes_on.1 rest
    ] is.to_undo

turn_calls : (host : HostView) (build : ℕ) (place : PlanCursor) (step : Step) (answer : TurnAnswer) (new : HostView) (after : PlanCursor)
    → IsStepTurn host build place step answer new after → IsByCalls host build new
turn_calls host build place (Ask cmd) answer new after is = by_one host build (Calls (call.Ask cmd) (replied is.0.result)) new is.0.is_answer
turn_calls host build place Undo answer new after is = by_one host build (Calls call.Undo (undone is.0.result)) new is.0.is_answer
turn_calls host build place Abort answer new after is = abort_calls host build place answer new after is
turn_calls host build place KeepMark answer new after is = by_one host build (Marks is.result) new is.is_marked
turn_calls host build place Back answer new after is = many (undos_to_go host build place) host build place answer new after is

-- ---- half way

abbrev Legal : HostView → Type 0
Legal host = IsLegal host.limits host.history

-- an abort of the build has begun, and the build has `left` open operations
record Halfway (host : HostView) (build left : ℕ) : Type 0 where
  old : HostView
  reached : Reached old build host
  opened : length (open_of host build) ≡ left

in_abort : (host : HostView) (build left : ℕ) → 0 < left → Halfway host build left → is_aborting host build ≡ true
in_abort host build left some half = half.reached.going.in_abort ∙ ap (nat_lt 0) half.opened ∙ lt-ltb 0 left some

legal_calls : (host : HostView) (build : ℕ) (cs : List AnsweredCall) (new : HostView) → Legal host → AreCalls host build cs new → Legal new
legal_calls host build [] new legal same = subst Legal (sym same) legal
legal_calls host build (c ∷ cs) new legal (then, (is, are)) = legal_calls then build cs new (legal_answer host build legal c then is) are

-- calls of another build do not change how many operations an abort has left to undo, if it has any left
others_calls : (host : HostView) (build other left : ℕ) (cs : List AnsweredCall) (new : HostView) → other ≢ build → 0 < left → Halfway host build left
    → AreCalls host other cs new → Halfway new build left
others_calls host build other left [] new not some half same = subst (λ h. Halfway h build left) (sym same) half
others_calls host build other left (c ∷ cs) new not some half (then, (is, are)) =
    let next : Halfway then build left = record {
      old = half.old;
      reached = one_call half.old build host half.reached (in_abort host build left some half) other c then (others_may build other not c) is;
      opened = ap length (opened_by_others host build other not c then is) ∙ half.opened;
    } in
    others_calls then build other left cs new not some next are

none_of : (acts : List Act) → length acts ≡ 0 → acts ≡ []
none_of [] none = refl
none_of (act ∷ acts) none = absurd (omega (arith, none))

left_nothing : (host : HostView) (build : ℕ) → Halfway host build 0 → HasLeftNothing host build
left_nothing host build half =
    let legal = half.reached.legal in
    let none = none_of (open_of host build) half.opened in
    record {
      none_open = none;
      over = half.reached.going.in_abort ∙ ap (λ acts. nat_lt 0 (length acts)) none;
      legal = legal;
      legal_without = (noninterference host.limits host.history build legal).0;
      no_trace = emptied host.limits build host.history (world_of host) legal (world_is host legal) none;
    }

-- ---- the turn of an abort

module _ (from to : Position) (build : ℕ) (answer : TurnAnswer) (after : PlanCursor) where
  abbrev place : PlanCursor
  place = place_of from.places build

  -- the state of the run agrees with the turn's answer, and `Halfway` holds if anything is left to undo
  record Stands : Type 0 where
    tells_it : ReportsOfAbort answer from build to
    half : 0 < after.left → Halfway to.host build after.left

  tells_one : (left : ℕ) (it : Undone) → Halfway to.host build left → ReportsOfAbort (answer_of_one left (Ok it)) from build to
  tells_one left it half = at (left == 0) refl
    where
      at : (t : Bool) → (left == 0) ≡ t → ReportsOfAbort (cond t (tells.Ended it.kind) (tells.Undone it.kind)) from build to
      at true none = left_nothing to.host build (subst (Halfway to.host build) (eqb-true left 0 none) half)
      at false more = let differs = eqb-false left 0 more in in_abort to.host build left (omega (arith, differs)) half

  one_undo : (begun : HostView) (count left : ℕ) → count ≡ left + 1 → Halfway begun build count → (result : Result Undone Refusal)
      → IsAnswer begun build call.Undo (undone result) to.host → answer ≡ answer_of_one left result → after ≡ record place { left = left_after left result } → Stands
  one_undo begun count left one_more half (Err refusal) is told place_is =
      let open_is : open_of begun build ≢ [] = λ none. (let no : count ≡ 0 = sym half.opened ∙ ap length none in absurd (omega (arith, no, one_more))) in
      absurd (let no : Some refusal ≡ None = sym is.0 ∙ served half.old build begun half.reached open_is in cc)
  one_undo begun count left one_more half (Ok it) is told place_is =
      let less : length (open_of begun build) ≡ length (open_of to.host build) + 1 = one_less begun build it to.host is in
      let some : 0 < count = omega (arith, one_more) in
      let opened = half.opened in
      let next : Halfway to.host build left = record {
        old = half.old;
        reached = one_call half.old build begun half.reached (in_abort begun build count some half) build (Calls call.Undo (undone (Ok it))) to.host tt is;
        opened = omega (arith, less, opened, one_more);
      } in
      record {
        tells_it = subst (λ a. ReportsOfAbort a from build to) (sym told) (tells_one left it next);
        half = λ some. subst (λ (p : PlanCursor). Halfway to.host build p.left) (sym place_is) next;
      }

  goes_down : (count : ℕ) (begun : HostView) → Halfway begun build count → (count ≡ 0 → place.left ≡ 0) → IsTurnOfMany (Ok count) begun build place answer to.host after → Stands
  goes_down count begun half none is = at (count == 0) refl is
    where
      at : (t : Bool) → (count == 0) ≡ t
          → OnTrue t ((answer ≡ tells.Nothing) × (to.host ≡ begun) × (after ≡ place)) × OnFalse t (IsOneOfMany begun build place (count - 1) answer to.host after) → Stands
      at true zero_is (nothing, _) =
          let is_zero = eqb-true count 0 zero_is in
          let none_left : after.left ≡ 0 = ap (λ (p : PlanCursor). p.left) nothing.2 ∙ none is_zero in
          record {
            tells_it =
                subst (λ a. ReportsOfAbort a from build to) (sym nothing.0)
                (left_nothing to.host build (subst (λ h. Halfway h build 0) (sym nothing.1) (subst (Halfway begun build) is_zero half)));
            half = λ some. absurd (omega (arith, some, none_left));
          }
      at false more (_, one) =
          let differs = eqb-false count 0 more in
          one_undo begun count (count - 1) (omega (arith, differs)) half one.result one.is_answer one.told one.place_is

  begins : (count : Result ℕ Refusal) (begun : HostView) → Legal from.host → place.left ≡ 0 → IsBegun from.host build count begun
      → IsTurnOfMany count begun build place answer to.host after → Stands
  begins (Err refusal) begun legal none (refused, same) is = record {
    tells_it = subst (λ a. ReportsOfAbort a from build to) (sym is.0) (none, is.1 ∙ same);
    half = λ some. absurd (let no : after.left ≡ 0 = ap (λ (p : PlanCursor). p.left) is.2 ∙ none in omega (arith, some, no));
  }
  begins (Ok count) begun legal none (served_is, begun_is) is =
      let half : Halfway begun build count = record {
        old = from.host;
        reached = starts from.host begun build count legal (served_is, begun_is);
        opened = ap (λ (h : HostView). length (open_of h build)) begun_is.new_is ∙ sym begun_is.count_is;
      } in
      goes_down count begun half (λ zero_is. none) is

  stands : Legal from.host → (0 < place.left → Halfway from.host build place.left) → IsAbortTurn from.host build place answer to.host after → Stands
  stands legal half is = at (place.left == 0) refl is.to_undo
    where
      at : (t : Bool) → (place.left == 0) ≡ t → OnTrue t (IsBegun from.host build is.count is.begun) × OnFalse t ((is.count ≡ Ok place.left) × (is.begun ≡ from.host)) → Stands
      at true none (begins_is, _) = begins is.count is.begun legal (eqb-true place.left 0 none) begins_is is.is_turn
      at false some (_, goes_on) =
          let differs = eqb-false place.left 0 some in
          let more : 0 < place.left = omega (arith, differs) in
          goes_down place.left is.begun (subst (λ h. Halfway h build place.left) (sym goes_on.1) (half more)) (λ none. none)
          (subst (λ c. IsTurnOfMany c is.begun build place answer to.host after) goes_on.0 is.is_turn)

-- ---- a run

-- if the build's next step is an abort with something left to undo, `Halfway` holds
abbrev IsMidway : Plan → HostView → ℕ → PlanCursor → Type 0
IsMidway plan host build place = step_after plan build place.done ≡ Some (Whole Abort) → 0 < place.left → Halfway host build place.left

record AllMidway (plan : Plan) (at : Position) : Type 0 where
  legal : Legal at.host
  aborts : (build : ℕ) → IsMidway plan at.host build (place_of at.places build)

first_of : (n build : ℕ) → get_or (replicate n first_place) build first_place ≡ first_place
first_of zero build = refl
first_of (suc n) zero = refl
first_of (suc n) (suc build) = first_of n build

at_start : (plan : Plan) (host : HostView) → Legal host → AllMidway plan (start host)
at_start plan host legal = record {
  legal = legal;
  aborts = λ build. subst (IsMidway plan host build) (sym (first_of 8 build)) (λ step some. absurd (omega (arith, some)));
}

module _ (plan : Plan) (from : Position) (turn : Turn) (to : Position) (midway : AllMidway plan from) (step : PlanStep) (answer : TurnAnswer) (after : PlanCursor)
    (read : step_after plan turn.build (place_of from.places turn.build).done ≡ Some step)
    (is : IsStepTurn from.host turn.build (place_of from.places turn.build) (asked step) answer to.host after)
    (places : to.places ≡ set from.places turn.build (moved_on plan.gives_up answer after)) where
  abbrev before : PlanCursor
  before = place_of from.places turn.build

  abort_stands : step ≡ Whole Abort → Stands from to turn.build answer after
  abort_stands is_abort =
      stands from to turn.build answer after midway.legal (λ some. midway.aborts turn.build (read ∙ ap Some is_abort) some)
      (subst (λ s. IsStepTurn from.host turn.build before (asked s) answer to.host after) is_abort is)

  -- if the build that took the turn has an abort with something left to undo, `Halfway` holds after the turn
  own_after : IsMidway plan to.host turn.build after
  own_after is_abort some =
      let same : step_after plan turn.build after.done ≡ step_after plan turn.build before.done =
      ap (step_after plan turn.build) (same_done from.host turn.build before (asked step) answer to.host after is) in
      (abort_stands (same_Some _ _ (sym read ∙ sym same ∙ is_abort))).half some

  own_moved : IsMidway plan to.host turn.build (moved_on plan.gives_up answer after)
  own_moved = at (after.left == 0) refl
    where
      at : (t : Bool) → (after.left == 0) ≡ t → IsMidway plan to.host turn.build (cond t (record after { done = number_after plan.gives_up (is_refusal answer) after.done }) after)
      at true none is_abort some = absurd (let no = eqb-true after.left 0 none in omega (arith, some, no))
      at false more is_abort some = own_after is_abort some

  own : IsMidway plan to.host turn.build (place_of to.places turn.build)
  own = at (nat_lt turn.build (length from.places)) refl
    where
      at : (t : Bool) → nat_lt turn.build (length from.places) ≡ t → IsMidway plan to.host turn.build (place_of to.places turn.build)
      at true there =
          subst (IsMidway plan to.host turn.build)
          (sym (ap (λ ps. place_of ps turn.build) places ∙ get_or-set_same from.places turn.build (moved_on plan.gives_up answer after) first_place (ltb-true turn.build (length from.places) there))) own_moved
      at false past =
          let outside = ltb-false turn.build (length from.places) past in
          subst (IsMidway plan to.host turn.build)
          (sym (ap (λ ps. place_of ps turn.build) (places ∙ set_past from.places turn.build (moved_on plan.gives_up answer after) outside) ∙ get_or_past from.places turn.build first_place outside))
          (λ is_abort some. absurd (omega (arith, some)))

  others : (build : ℕ) → turn.build ≢ build → IsMidway plan to.host build (place_of to.places build)
  others build not =
      let by_calls = turn_calls from.host turn.build before (asked step) answer to.host after is in
      let there : place_of to.places build ≡ place_of from.places build =
      ap (λ ps. place_of ps build) places ∙ get_or-set_other from.places turn.build build (moved_on plan.gives_up answer after) first_place (λ same. not (sym same)) in
      subst (IsMidway plan to.host build) (sym there)
      (λ is_abort some. others_calls from.host build turn.build (place_of from.places build).left by_calls.calls to.host not some (midway.aborts build is_abort some) by_calls.are)

  all_after : AllMidway plan to
  all_after = record {
    legal =
        let by_calls = turn_calls from.host turn.build before (asked step) answer to.host after is in
        legal_calls from.host turn.build by_calls.calls to.host midway.legal by_calls.are;
    aborts = λ build. at build (eqb turn.build build) refl;
  }
    where
      at : (build : ℕ) (t : Bool) → eqb turn.build build ≡ t → IsMidway plan to.host build (place_of to.places build)
      at build true same = subst (λ b. IsMidway plan to.host b (place_of to.places b)) (eqb-true turn.build build same) own
      at build false differs = others build (eqb-false turn.build build differs)

after_turn : (plan : Plan) (from : Position) (turn : Turn) (to : Position) → AllMidway plan from → IsTurn plan from turn to → AllMidway plan to
after_turn plan from turn to midway is = at (step_after plan turn.build (place_of from.places turn.build).done) refl is
  where
    at : (step : Option PlanStep) → step_after plan turn.build (place_of from.places turn.build).done ≡ step → IsTurnOf plan.gives_up step from turn to → AllMidway plan to
    at None read idle = subst (AllMidway plan) (sym idle.1) midway
    at (Some step) read it = all_after plan from turn to midway step it.0 it.1 read it.3 it.4

along : (plan : Plan) (order : List ℕ) (from : Position) (turns : List Turn) (to : Position) → AllMidway plan from → AreTurns plan order from turns to → AllMidway plan to
along plan [] from [] to midway are = subst (AllMidway plan) (sym are) midway
along plan [] from (t ∷ turns) to midway are = elim are [ ]
along plan (b ∷ order) from [] to midway are = elim are [ ]
along plan (b ∷ order) from (t ∷ turns) to midway are = along plan order are.1 turns to (after_turn plan from t are.1 midway are.2) are.3

pub told : (plan : Plan) (host : HostView) (order : List ℕ) (turns : List Turn) (from to : Position) (turn : Turn) (answer : TurnAnswer) → Legal host
    → AreTurns plan order (start host) turns from → IsTurn plan from turn to → turn.told ≡ Some (Whole Abort, answer) → ReportsOfAbort answer from turn.build to
told plan host order turns from to turn answer legal run is tells_abort = at (step_after plan turn.build (place_of from.places turn.build).done) refl is
  where
    midway : AllMidway plan from
    midway = along plan order (start host) turns from (at_start plan host legal) run

    at : (step : Option PlanStep) → step_after plan turn.build (place_of from.places turn.build).done ≡ step → IsTurnOf plan.gives_up step from turn to → ReportsOfAbort answer from turn.build to
    at None read idle = absurd (let no : Some (Whole Abort, answer) ≡ None = sym tells_abort ∙ idle.0 in cc)
    at (Some step) read it =
        let same : (step, it.0) ≡ (Whole Abort, answer) = same_Some _ _ (sym it.2 ∙ tells_abort) in
        subst (λ a. ReportsOfAbort a from turn.build to) (ap (λ (p : PlanStep × TurnAnswer). p.1) same)
        (abort_stands plan from turn to midway step it.0 it.1 read it.3 it.4 (ap (λ (p : PlanStep × TurnAnswer). p.0) same)).tells_it
