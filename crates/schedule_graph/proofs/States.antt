-- Proofs that two positions of runs, if in the same state, have the same possible turns and answers, and that a turn
-- leads both positions to the same state.
use Rattle.std.proofs.Common.{◌≡◌, ◌≢◌, ℕ, ◌-◌, ◌==◌, Bool, true, false, cond, List, [], ◌∷◌, map, get_or, set, Option, Some, None, Result, Ok, Err, refl, sym, ap, ◌∙◌, subst, ⊎_elim}
use Rattle.std.specs.Prelude.{option_map}
use Rattle.std.specs.Bool.{OnTrue, OnFalse}
use Rattle.std.proofs.lemmas.Bool.{cases_eq}
use Rattle.std.proofs.lemmas.List.{get_or-set_other}
use Rattle.host_commands.specs.declared.cmd.Cmd.{Cmd}
use Rattle.host_commands.specs.declared.cmd.Step.{Step}
use Rattle.host_commands.specs.declared.cmd.Step.TheVariants.{Ask, Undo, Abort, Mark as KeepMark, Back}
use Rattle.host_commands.specs.declared.refusal.Refusal.{Refusal}
use Rattle.host_commands.specs.Checks.{first_that_holds}
use Rattle.host_ledger.specs.declared.mark.Mark.{Mark}
use Rattle.host_ledger.specs.View.{HostView, mark_of, mark_now, with_mark}
use Rattle.realm_host.specs.Abort.{IsBegun}
use Rattle.realm_host.specs.Answer.{replied, undone}
use Rattle.realm_host.specs.Call as call
use Rattle.realm_host.specs.Interleaving.{DifferInInterleaving}
use Rattle.realm_host.specs.Marked.{IsMarked}
use Rattle.realm_plan.specs.Asked.{asked}
use Rattle.realm_plan.specs.Plan.{Plan}
use Rattle.realm_plan.specs.declared.step.PlanStep.{PlanStep}
use Rattle.plan_replay.specs.Place.{first_place, moved_on}
use Rattle.plan_replay.specs.Run.{Position, Turn, place_of, step_after, map_text, IsTurnOf, IsTurn, AreTurns}
use Rattle.plan_replay.specs.Turn.{answer_of_mark, last_mark, undos_to_go, left_after, IsCommandTurn, IsUndoTurn, IsMarkTurn, IsOneOfMany, IsTurnOfMany, IsToAbort, IsAbortTurn, IsStepTurn}
use Rattle.plan_replay.specs.declared.answer.TurnAnswer.{TurnAnswer}
use Rattle.plan_replay.specs.declared.answer.TurnAnswer.TheVariants as tells
use Rattle.plan_replay.specs.declared.place.PlanCursor.{PlanCursor}
use Rattle.plan_replay.proofs.Maps.{same_map}
use Rattle.schedule_graph.specs.State.{Point, Progress, mark_point, progress_of, has_way_back, AreOneState, IsAlsoTaken, AreAlsoTaken}
use Rattle.schedule_graph.proofs.Kept.{goes, same_mark, also_set, progress_at, progress_set, progress_moved, mark-moved_on, goes-set}
use Rattle.schedule_graph.proofs.Calls.{AreKeptAlike, call_too, begin_too, checks_alike, now_alike, differ_marked, above_mark_alike}

-- ---- a step of a build on two hosts

-- The step can be taken on the other host too, and the hosts then still differ only in the schedule. The build's
-- cursors have the same progress, and their marks are kept on both hosts or on neither. The marks of other builds are
-- as they were.
record Too (IsStep : HostView → PlanCursor → Type 0) (b : ℕ) (host twin new : HostView) (after : PlanCursor) : Type 0 where
  then : HostView
  also : PlanCursor
  is_step : IsStep then also
  differ : DifferInInterleaving new then
  progress : progress_of also ≡ progress_of after
  kept : goes (mark_of then b) also.mark ≡ goes (mark_of new b) after.mark
  rest : (c : ℕ) → c ≢ b → mark_of new c ≡ mark_of host c
  also_rest : (c : ℕ) → c ≢ b → mark_of then c ≡ mark_of twin c

module _ (b : ℕ) (place other : PlanCursor) (alike_places : progress_of other ≡ progress_of place) where
  same_points : option_map mark_point other.mark ≡ option_map mark_point place.mark
  same_points = ap (λ (p : Progress). p.mark) alike_places

  same_left : other.left ≡ place.left
  same_left = ap (λ (p : Progress). p.left) alike_places

  -- `Too` holds for a step that leaves `host` and its cursor unchanged, if the step can also leave `twin` and its
  -- cursor unchanged. Before the step, the hosts differ only in the schedule, and agree on whether they keep the
  -- cursors' marks.
  stays : (IsStep : HostView → PlanCursor → Type 0) (host twin new : HostView) (after : PlanCursor) → DifferInInterleaving host twin
      → AreKeptAlike b host twin place.mark other.mark → new ≡ host → after ≡ place → IsStep twin other → Too IsStep b host twin new after
  stays IsStep host twin new after differ kept same same_place is = record {
    then = twin;
    also = other;
    is_step = is;
    differ = subst (λ n. DifferInInterleaving n twin) (sym same) differ;
    progress = alike_places ∙ ap progress_of (sym same_place);
    kept = kept.kept ∙ (λ i. goes (mark_of (sym same i) b) (sym same_place i).mark);
    rest = λ c _. ap (λ (n : HostView). mark_of n c) same;
    also_rest = λ c _. refl;
  }

  command_too : (cmd : Cmd) (host twin new : HostView) (answer : TurnAnswer) (after : PlanCursor) → DifferInInterleaving host twin
      → AreKeptAlike b host twin place.mark other.mark → IsCommandTurn host b cmd answer new → after ≡ place
      → Too (λ then also. IsCommandTurn twin b cmd answer then × (also ≡ other)) b host twin new after
  command_too cmd host twin new answer after differ kept is same_place =
      let too = call_too host twin b (call.Ask cmd) (replied is.result) new differ is.is_answer in
      record {
        then = too.then;
        also = other;
        is_step = (record { result = is.result; is_answer = too.answered; told = is.told }, refl);
        differ = too.differ;
        progress = alike_places ∙ ap progress_of (sym same_place);
        kept = too.kept place.mark other.mark kept ∙ ap (λ (p : PlanCursor). goes (mark_of new b) p.mark) (sym same_place);
        rest = too.rest;
        also_rest = too.also_rest;
      }

  undo_too : (host twin new : HostView) (answer : TurnAnswer) (after : PlanCursor) → DifferInInterleaving host twin
      → AreKeptAlike b host twin place.mark other.mark → IsUndoTurn host b answer new → after ≡ place
      → Too (λ then also. IsUndoTurn twin b answer then × (also ≡ other)) b host twin new after
  undo_too host twin new answer after differ kept is same_place =
      let too = call_too host twin b call.Undo (undone is.result) new differ is.is_answer in
      record {
        then = too.then;
        also = other;
        is_step = (record { result = is.result; is_answer = too.answered; told = is.told }, refl);
        differ = too.differ;
        progress = alike_places ∙ ap progress_of (sym same_place);
        kept = too.kept place.mark other.mark kept ∙ ap (λ (p : PlanCursor). goes (mark_of new b) p.mark) (sym same_place);
        rest = too.rest;
        also_rest = too.also_rest;
      }

  -- ---- one undo of many

  one_too : (left : ℕ) (host twin new : HostView) (answer : TurnAnswer) (after : PlanCursor) → DifferInInterleaving host twin
      → AreKeptAlike b host twin place.mark other.mark → IsOneOfMany host b place left answer new after
      → Too (λ then also. IsOneOfMany twin b other left answer then also) b host twin new after
  one_too left host twin new answer after differ kept is =
      let too = call_too host twin b call.Undo (undone is.result) new differ is.is_answer in
      record {
        then = too.then;
        also = record other { left = left_after left is.result };
        is_step = record { result = is.result; is_answer = too.answered; told = is.told; place_is = refl };
        differ = too.differ;
        progress =
            (λ i. record { done = (alike_places i).done; left = left_after left is.result; mark = (alike_places i).mark })
            ∙ ap progress_of (sym is.place_is);
        kept = too.kept place.mark other.mark kept ∙ ap (λ (p : PlanCursor). goes (mark_of new b) p.mark) (sym is.place_is);
        rest = too.rest;
        also_rest = too.also_rest;
      }

  -- the turn of a step that has `count` operations to undo: if `none` is true, the turn changes nothing, and otherwise
  -- it performs one undo
  abbrev IsManyBy : ℕ → HostView → PlanCursor → TurnAnswer → Bool → HostView → PlanCursor → Type 0
  IsManyBy count host at answer none new after =
      OnTrue none ((answer ≡ tells.Nothing) × (new ≡ host) × (after ≡ at)) × OnFalse none (IsOneOfMany host b at (count - 1) answer new after)

  many_by : (none : Bool) (count : ℕ) (host twin new : HostView) (answer : TurnAnswer) (after : PlanCursor) → DifferInInterleaving host twin
      → AreKeptAlike b host twin place.mark other.mark → IsManyBy count host place answer none new after
      → Too (IsManyBy count twin other answer none) b host twin new after
  many_by true count host twin new answer after differ kept (nothing, _) =
      stays (IsManyBy count twin other answer true) host twin new after differ kept nothing.1 nothing.2 ((nothing.0, refl, refl), tt)
  many_by false count host twin new answer after differ kept (_, one) =
      let too = one_too (count - 1) host twin new answer after differ kept one in
      record {
        then = too.then;
        also = too.also;
        is_step = (tt, too.is_step);
        differ = too.differ;
        progress = too.progress;
        kept = too.kept;
        rest = too.rest;
        also_rest = too.also_rest;
      }

  many_too : (count : Result ℕ Refusal) (host twin new : HostView) (answer : TurnAnswer) (after : PlanCursor) → DifferInInterleaving host twin
      → AreKeptAlike b host twin place.mark other.mark → IsTurnOfMany count host b place answer new after
      → Too (λ then also. IsTurnOfMany count twin b other answer then also) b host twin new after
  many_too (Err refusal) host twin new answer after differ kept is =
      stays (λ then also. IsTurnOfMany (Err refusal) twin b other answer then also) host twin new after differ kept is.1 is.2 (is.0, refl, refl)
  many_too (Ok count) host twin new answer after differ kept is = many_by (count == 0) count host twin new answer after differ kept is

  -- ---- an abort

  record BegunToo (host twin : HostView) (count : Result ℕ Refusal) (begun : HostView) : Type 0 where
    then : HostView
    to_undo : IsToAbort twin b other count then
    differ : DifferInInterleaving begun then
    marks : begun.marks ≡ host.marks
    also_marks : then.marks ≡ twin.marks

  begun_too : (host twin : HostView) (count : Result ℕ Refusal) (begun : HostView) → DifferInInterleaving host twin → IsToAbort host b place count begun → BegunToo host twin count begun
  begun_too host twin count begun differ is = at (place.left == 0) refl is
    where
      at : (t : Bool) → (place.left == 0) ≡ t → OnTrue t (IsBegun host b count begun) × OnFalse t ((count ≡ Ok place.left) × (begun ≡ host)) → BegunToo host twin count begun
      at true none (begins, _) =
          let too = begin_too host twin b count begun differ begins in
          record {
            then = too.then;
            to_undo = subst (λ t. OnTrue t (IsBegun twin b count too.then) × OnFalse t ((count ≡ Ok other.left) × (too.then ≡ twin))) (sym (ap (λ (n : ℕ). n == 0) same_left ∙ none)) (too.is_begun, tt);
            differ = too.differ;
            marks = too.marks;
            also_marks = too.also_marks;
          }
      at false more (_, goes_on) = record {
        then = twin;
        to_undo = subst (λ t. OnTrue t (IsBegun twin b count twin) × OnFalse t ((count ≡ Ok other.left) × (twin ≡ twin))) (sym (ap (λ (n : ℕ). n == 0) same_left ∙ more)) (tt, (goes_on.0 ∙ ap (λ (n : ℕ). Ok n) (sym same_left), refl));
        differ = subst (λ n. DifferInInterleaving n twin) (sym goes_on.1) differ;
        marks = ap (λ (n : HostView). n.marks) goes_on.1;
        also_marks = refl;
      }

  abort_too : (host twin new : HostView) (answer : TurnAnswer) (after : PlanCursor) → DifferInInterleaving host twin
      → AreKeptAlike b host twin place.mark other.mark → IsAbortTurn host b place answer new after
      → Too (λ then also. IsAbortTurn twin b other answer then also) b host twin new after
  abort_too host twin new answer after differ kept is =
      let first = begun_too host twin is.count is.begun differ is.to_undo in
      let still : AreKeptAlike b is.begun first.then place.mark other.mark = record {
        points = kept.points;
        kept = ap (λ ms. goes (get_or ms b None) other.mark) first.also_marks ∙ kept.kept ∙ sym (ap (λ ms. goes (get_or ms b None) place.mark) first.marks);
      } in
      let too = many_too is.count is.begun first.then new answer after first.differ still is.is_turn in
      record {
        then = too.then;
        also = too.also;
        is_step = record { count = is.count; begun = first.then; to_undo = first.to_undo; is_turn = too.is_step };
        differ = too.differ;
        progress = too.progress;
        kept = too.kept;
        rest = λ c o. too.rest c o ∙ ap (λ ms. get_or ms c None) first.marks;
        also_rest = λ c o. too.also_rest c o ∙ ap (λ ms. get_or ms c None) first.also_marks;
      }

  -- ---- a way back

  go_back_alike : (host twin : HostView) → DifferInInterleaving host twin → AreKeptAlike b host twin place.mark other.mark → undos_to_go twin b other ≡ undos_to_go host b place
  go_back_alike host twin differ kept = λ i.
      cond (same_left i == 0) (above_mark_alike host twin differ b place.mark other.mark kept i) (Ok (same_left i))

  back_too : (host twin new : HostView) (answer : TurnAnswer) (after : PlanCursor) → DifferInInterleaving host twin
      → AreKeptAlike b host twin place.mark other.mark → IsTurnOfMany (undos_to_go host b place) host b place answer new after
      → Too (λ then also. IsTurnOfMany (undos_to_go twin b other) twin b other answer then also) b host twin new after
  back_too host twin new answer after differ kept is =
      subst (λ count. Too (λ then also. IsTurnOfMany count twin b other answer then also) b host twin new after) (sym (go_back_alike host twin differ kept))
      (many_too (undos_to_go host b place) host twin new answer after differ kept is)

  -- ---- a mark

  marked_too : (result : Result Mark Refusal) (host twin new : HostView) (answer : TurnAnswer) (after : PlanCursor) → DifferInInterleaving host twin
      → AreKeptAlike b host twin place.mark other.mark
      → IsMarked host b result new → answer ≡ answer_of_mark result → after ≡ record place { mark = last_mark place.mark result }
      → Too (λ then also. IsMarkTurn twin b other answer then also) b host twin new after
  marked_too (Err refusal) host twin new answer after differ kept (fails, same) told place_is = record {
    then = twin;
    also = record other { mark = last_mark other.mark (Err refusal) };
    is_step = record { result = Err refusal; is_marked = (ap first_that_holds (checks_alike host twin differ b) ∙ fails, refl); told = told; place_is = refl };
    differ = subst (λ n. DifferInInterleaving n twin) (sym same) differ;
    progress = alike_places ∙ ap progress_of (sym place_is);
    kept = kept.kept ∙ (λ i. goes (mark_of (sym same i) b) (sym place_is i).mark);
    rest = λ c _. ap (λ (n : HostView). mark_of n c) same;
    also_rest = λ c _. refl;
  }
  marked_too (Ok mark) host twin new answer after differ kept (none, as_now) told place_is =
      let now : Mark = mark_now twin b in
      let points : mark_point now ≡ mark_point mark = now_alike host twin differ b ∙ ap mark_point (sym as_now.mark_is) in
      let is_there : mark_of (with_mark twin b now) b ≡ Some now =
      also_set host.marks twin.marks b mark now differ.depths (ap (λ (n : HostView). mark_of n b) (sym as_now.new_is) ∙ as_now.kept) in
      record {
        then = with_mark twin b now;
        also = record other { mark = Some now };
        is_step = record {
          result = Ok now;
          is_marked = (ap first_that_holds (checks_alike host twin differ b) ∙ none, record { mark_is = refl; new_is = refl; kept = is_there });
          told = told ∙ ap (λ (p : Point). tells.Marked p.length) (sym points);
          place_is = refl;
        };
        differ = subst (λ n. DifferInInterleaving n (with_mark twin b now)) (sym (as_now.new_is ∙ ap (with_mark host b) as_now.mark_is)) (differ_marked host twin differ b);
        progress =
            (λ i. record { done = (alike_places i).done; left = (alike_places i).left; mark = Some (points i) })
            ∙ ap progress_of (sym place_is);
        kept =
            ap (λ k. goes k (Some now)) is_there ∙ same_mark now ∙ sym (same_mark mark) ∙ sym (ap (λ k. goes k (Some mark)) as_now.kept)
            ∙ ap (λ (p : PlanCursor). goes (mark_of new b) p.mark) (sym place_is);
        rest = λ c ne. ap (λ (n : HostView). mark_of n c) as_now.new_is ∙ get_or-set_other host.marks b c (Some mark) None ne;
        also_rest = λ c ne. get_or-set_other twin.marks b c (Some now) None ne;
      }

  mark_too : (host twin new : HostView) (answer : TurnAnswer) (after : PlanCursor) → DifferInInterleaving host twin
      → AreKeptAlike b host twin place.mark other.mark → IsMarkTurn host b place answer new after
      → Too (λ then also. IsMarkTurn twin b other answer then also) b host twin new after
  mark_too host twin new answer after differ kept is = marked_too is.result host twin new answer after differ kept is.is_marked is.told is.place_is

  step_too : (step : Step) (host twin new : HostView) (answer : TurnAnswer) (after : PlanCursor) → DifferInInterleaving host twin
      → AreKeptAlike b host twin place.mark other.mark → IsStepTurn host b place step answer new after
      → Too (λ then also. IsStepTurn twin b other step answer then also) b host twin new after
  step_too (Ask cmd) host twin new answer after differ kept is = command_too cmd host twin new answer after differ kept is.0 is.1
  step_too Undo host twin new answer after differ kept is = undo_too host twin new answer after differ kept is.0 is.1
  step_too Abort host twin new answer after differ kept is = abort_too host twin new answer after differ kept is
  step_too KeepMark host twin new answer after differ kept is = mark_too host twin new answer after differ kept is
  step_too Back host twin new answer after differ kept is = back_too host twin new answer after differ kept is

-- ---- turns of positions that are one state

record TurnToo (gives_up : Bool) (step : Option PlanStep) (other : Position) (turn : Turn) (to : Position) : Type 0 where
  then : Position
  is_turn : IsTurnOf gives_up step other turn then
  same : AreOneState to then

module _ (one other : Position) (same : AreOneState one other) where
  progress_of_both : (b : ℕ) → progress_of (place_of other.places b) ≡ progress_of (place_of one.places b)
  progress_of_both b = progress_at one.places other.places same.progress b

  kept_at : (b : ℕ) → AreKeptAlike b one.host other.host (place_of one.places b).mark (place_of other.places b).mark
  kept_at b = record { points = ap (λ (p : Progress). p.mark) (progress_of_both b); kept = same.ways_back b }

  turn_of : (gives_up : Bool) (step : Option PlanStep) (turn : Turn) (to : Position) → IsTurnOf gives_up step one turn to → TurnToo gives_up step other turn to
  turn_of gives_up None turn to (told, stays_there) = record {
    then = other;
    is_turn = (told, refl);
    same = subst (λ p. AreOneState p other) (sym stays_there) same;
  }
  turn_of gives_up (Some step) turn to (answer, after, told, is_step, places) =
      let b = turn.build in
      let too = step_too b (place_of one.places b) (place_of other.places b) (progress_of_both b) (asked step) one.host other.host to.host answer after same.hosts (kept_at b) is_step in
      let then : Position = record { host = too.then; places = set other.places b (moved_on gives_up answer too.also) } in
      let marks : goes (mark_of too.then b) (moved_on gives_up answer too.also).mark ≡ goes (mark_of to.host b) (moved_on gives_up answer after).mark =
      ap (goes (mark_of too.then b)) (mark-moved_on gives_up answer too.also) ∙ too.kept ∙ sym (ap (goes (mark_of to.host b)) (mark-moved_on gives_up answer after)) in
      let own : has_way_back then b ≡ has_way_back to b =
      goes-set one.places other.places b (moved_on gives_up answer after) (moved_on gives_up answer too.also) (mark_of to.host b) (mark_of too.then b) same.progress marks
      ∙ ap (λ ps. goes (mark_of to.host b) (get_or ps b first_place).mark) (sym places) in
      let another : (c : ℕ) → c ≢ b → has_way_back then c ≡ has_way_back to c = λ c ne.
      (λ i. goes (too.also_rest c ne i) (get_or-set_other other.places b c (moved_on gives_up answer too.also) first_place ne i).mark)
      ∙ same.ways_back c
      ∙ sym (λ i. goes (too.rest c ne i) ((ap (λ ps. get_or ps c first_place) places ∙ get_or-set_other one.places b c (moved_on gives_up answer after) first_place ne) i).mark) in
      record {
        then = then;
        is_turn = (answer, too.also, told, too.is_step, refl);
        same = record {
          hosts = too.differ;
          progress = progress_set one.places other.places b (moved_on gives_up answer after) (moved_on gives_up answer too.also) same.progress (progress_moved gives_up answer after too.also too.progress) ∙ ap (map progress_of) (sym places);
          ways_back = λ c. ⊎_elim (λ e. subst (λ k. has_way_back then k ≡ has_way_back to k) (sym e) own) (another c) (cases_eq c b);
        };
      }

  pub same_step : (plan : Plan) (b : ℕ) → step_after plan b (place_of other.places b).done ≡ step_after plan b (place_of one.places b).done
  same_step plan b = ap (λ (p : Progress). step_after plan b p.done) (progress_of_both b)

  pub turn_too : (plan : Plan) (turn : Turn) (to : Position) → IsTurn plan one turn to → IsAlsoTaken plan other turn to
  turn_too plan turn to is =
      let too = turn_of plan.gives_up (step_after plan turn.build (place_of one.places turn.build).done) turn to is in
      record { then = too.then; is_turn = subst (λ step. IsTurnOf plan.gives_up step other turn too.then) (sym (same_step plan turn.build)) too.is_turn; same = too.same }

  pub same_text : map_text other.host ≡ map_text one.host
  same_text = same_map one.host other.host same.hosts.same

pub turns_too : (plan : Plan) (schedule : List ℕ) (one other : Position) (turns : List Turn) (to : Position) → AreOneState one other → AreTurns plan schedule one turns to → AreAlsoTaken plan schedule other turns to
turns_too plan [] one other [] to same stays_there = record { then = other; are_turns = refl; same = subst (λ p. AreOneState p other) (sym stays_there) same }
turns_too plan (build ∷ schedule) one other (turn ∷ turns) to same (of_build, between, is_turn, more) =
    let first = turn_too one other same plan turn between is_turn in
    let rest = turns_too plan schedule between first.then turns to first.same more in
    record { then = rest.then; are_turns = (of_build, first.then, first.is_turn, rest.are_turns); same = rest.same }
turns_too plan [] one other (turn ∷ turns) to same are = absurd are
turns_too plan (build ∷ schedule) one other [] to same are = absurd are
