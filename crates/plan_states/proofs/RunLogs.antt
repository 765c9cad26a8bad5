-- Proofs that the log of the turns along a state graph's paths is correct at boot, and stays correct with each logged
-- turn.
use Rattle.std.proofs.Common.{◌≡◌, ℕ, zero, suc, ◌<◌, ◌≤◌, List, [], ◌∷◌, ◌++◌, length, get_or, All, Some, None, inl, inr, refl, sym, ap, ◌∙◌, subst}
use Rattle.std.specs.Prelude.{slice_get}
use Rattle.std.specs.declared.alloc.Global.{Global}
use Rattle.std.specs.declared.string.String.{String}
use Rattle.std.proofs.lemmas.List.Elements.{All-nil, All-push}
use Rattle.std.proofs.lemmas.Option.{none-some, slice_get_past, slice_get_read}
use Rattle.realm_plan.specs.Plan.{Plan}
use Rattle.realm_program.specs.Replay.{opening_host}
use Rattle.plan_replay.specs.Run.{Position, Turn, start, AreTurns}
use Rattle.plan_replay.proofs.Runs.{AreTurns-more}
use Rattle.plan_states.specs.Reached.{IsReached, IsTurnAt}
use Rattle.plan_states.specs.RunLog.{IsLog, IsLogged, IsSnapshotNumber, IsSnapshotOfRun, IsShownBy}
use Rattle.plan_states.specs.Runs.{IsLabelled}
use Rattle.plan_states.specs.Snapshots.{AreBuildsAt, IsOfHost}
use Rattle.plan_states.specs.Turned.{Taken, AreWith}
use Rattle.plan_states.specs.declared.edges.Label.{Label}
use Rattle.plan_states.specs.declared.run_log.LoggedTurn.{LoggedTurn}
use Rattle.plan_states.specs.declared.run_log.RunLog.{RunLog}
use Rattle.plan_states.specs.declared.snapshot.Snapshot.{Snapshot}
use Rattle.plan_states.specs.declared.step_end.EndOfStep.{EndOfStep}

-- ---- one more at the end of a list

slice_get_more : {X : Type 0} (xs : List X) (y : X) (k : ℕ) (x : X) → slice_get xs k ≡ Some x → slice_get (xs ++ y ∷ []) k ≡ Some x
slice_get_more [] y k x there = absurd (none-some x there)
slice_get_more (z ∷ xs) y zero x there = there
slice_get_more (z ∷ xs) y (suc k) x there = slice_get_more xs y k x there

pub slice_get_last : {X : Type 0} (xs : List X) (y : X) → slice_get (xs ++ y ∷ []) (length xs) ≡ Some y
slice_get_last [] y = refl
slice_get_last (z ∷ xs) y = slice_get_last xs y

slice_get_with : {X : Type 0} (xs new : List X) (y : X) → AreWith xs (Some y) new → (k : ℕ) (x : X) → slice_get xs k ≡ Some x → slice_get new k ≡ Some x
slice_get_with xs new y (inl same) k x there = subst (λ l. slice_get l k ≡ Some x) (sym same) there
slice_get_with xs new y (inr more) k x there = subst (λ l. slice_get l k ≡ Some x) (sym more) (slice_get_more xs y k x there)

-- ---- snapshots

pub numbered : (plan : Plan) (snapshots : List Snapshot) (number : ℕ) (snapshot : Snapshot) (at : Position)
    → IsSnapshotNumber snapshots number snapshot → IsSnapshotOfRun plan snapshot at → IsShownBy plan snapshots number at
numbered plan snapshots number snapshot at is shown = record {
  it = is.it;
  is_there = is.is_there;
  shown = record { schedule = shown.schedule; reached = shown.reached; of_host = shown.of_host; builds = λ build less. is.same build less ∙ shown.builds build less };
}

module _ (plan : Plan) (old new : List Snapshot) (snapshot : Snapshot) (more : AreWith old (Some snapshot) new) where
  shown_more : (number : ℕ) (at : Position) → IsShownBy plan old number at → IsShownBy plan new number at
  shown_more number at is = record { it = is.it; is_there = slice_get_with old new snapshot more number is.it is.is_there; shown = is.shown }

  logged_more : (ends : List EndOfStep) (held : List (List ℕ)) (maps : List (String Global)) (turn : LoggedTurn) → IsLogged plan ends held maps old turn → IsLogged plan ends held maps new turn
  logged_more ends held maps turn is = record {
    at = is.at;
    to = is.to;
    before = shown_more turn.from is.at is.before;
    labelled = is.labelled;
    after = shown_more turn.to is.to is.after;
  }

-- ---- a turn

-- if a schedule leads to a position, the schedule with one more turn leads to the position after the turn
pub reached_by : (plan : Plan) (schedule : List ℕ) (at to : Position) (build : ℕ) (taken : Taken) → IsReached plan schedule at → IsTurnAt plan at build taken to
    → IsReached plan (schedule ++ build ∷ []) to
reached_by plan schedule at to build taken reached is = record {
  turns = reached.turns ++ taken.turn ∷ [];
  are_turns = AreTurns-more plan schedule (start (opening_host plan)) reached.turns at build taken.turn to reached.are_turns is.of_build is.is_turn;
}

module _ (plan : Plan) (ends : List EndOfStep) (held : List (List ℕ)) (maps : List (String Global)) (snapshots more : List Snapshot) (turns : List LoggedTurn) (snapshot : Snapshot)
    (label : Label) (from to : ℕ) (at after : Position)
    (boot : IsShownBy plan snapshots 0 (start (opening_host plan))) (logged : All (IsLogged plan ends held maps snapshots) turns)
    (before : IsShownBy plan snapshots from at) (labelled : IsLabelled plan ends held maps at label after)
    (of_host : IsOfHost after) (builds : AreBuildsAt after 8 snapshot.builds.items)
    (with_it : AreWith snapshots (Some snapshot) more) (is_number : IsSnapshotNumber more to snapshot) where
  pub shown_after : IsShownBy plan more to after
  shown_after = numbered plan more to snapshot after is_number (record {
    schedule = before.shown.schedule ++ label.build ∷ [];
    reached = reached_by plan before.shown.schedule at after label.build labelled.taken before.shown.reached labelled.is_taken;
    of_host = of_host;
    builds = builds;
  })

  pub log_more : (log : RunLog) → log.snapshots.items ≡ more → log.turns.items ≡ turns ++ record { label = label; from = from; to = to } ∷ [] → IsLog plan ends held maps log
  log_more log same longer =
      let turn : LoggedTurn = record { label = label; from = from; to = to } in
      record {
        boot = subst (λ l. IsShownBy plan l 0 (start (opening_host plan))) (sym same) (shown_more plan snapshots more snapshot with_it 0 (start (opening_host plan)) boot);
        turns = subst (λ l. All (IsLogged plan ends held maps l) log.turns.items) (sym same)
            (subst (All (IsLogged plan ends held maps more)) (sym longer)
            (All-push (IsLogged plan ends held maps more) turns turn
            (λ k d less. logged_more plan snapshots more snapshot with_it ends held maps (get_or turns k d) (logged k d less))
            (record {
              at = at;
              to = after;
              before = shown_more plan snapshots more snapshot with_it from at before;
              labelled = labelled;
              after = shown_after;
            })));
      }

-- ---- boot

no_turn : (plan : Plan) (at : Position) (turns : List Turn) → AreTurns plan [] (start (opening_host plan)) turns at → at ≡ start (opening_host plan)
no_turn plan at [] are = are
no_turn plan at (turn ∷ turns) are = absurd are

pub at_boot : (plan : Plan) (snapshot : Snapshot) (at : Position)
    → IsReached plan [] at → IsOfHost at → AreBuildsAt at 8 snapshot.builds.items → IsSnapshotOfRun plan snapshot (start (opening_host plan))
at_boot plan snapshot at reached of_host builds =
    subst (IsSnapshotOfRun plan snapshot) (no_turn plan at reached.turns reached.are_turns)
    (record { schedule = []; reached = reached; of_host = of_host; builds = builds })

pub booted_log : (plan : Plan) (ends : List EndOfStep) (held : List (List ℕ)) (maps : List (String Global)) (log : RunLog) (snapshot : Snapshot)
    → IsSnapshotOfRun plan snapshot (start (opening_host plan)) → log.snapshots.items ≡ snapshot ∷ [] → log.turns.items ≡ [] → IsLog plan ends held maps log
booted_log plan ends held maps log snapshot shown only none = record {
  boot = record {
    it = snapshot;
    is_there = ap (λ l. slice_get l 0) only;
    shown = shown;
  };
  turns = subst (All (IsLogged plan ends held maps log.snapshots.items)) (sym none) (All-nil (IsLogged plan ends held maps log.snapshots.items));
}

-- ---- numbers

pub read_at : {X : Type 0} (xs : List X) (k : ℕ) (x : X) → k < length xs → x ≡ get_or xs k x → slice_get xs k ≡ Some x
read_at xs k x inside is = slice_get_read xs (length xs) k x refl inside is

pub seen_at_place : {X : Type 0} (xs seen : List X) (k : ℕ) (x : X) → seen ≡ xs → k < length seen → x ≡ get_or seen k x → slice_get xs k ≡ Some x
seen_at_place xs seen k x same inside is = subst (λ l. slice_get l k ≡ Some x) same (read_at seen k x inside is)

pub nothing_at_place : {X : Type 0} (xs seen : List X) (k : ℕ) → seen ≡ xs → length seen ≤ k → slice_get xs k ≡ None
nothing_at_place xs seen k same over = subst (λ l. slice_get l k ≡ None) same (slice_get_past seen k over)

pub last_number : (snapshots new : List Snapshot) (snapshot : Snapshot) (number : ℕ) → number ≡ length snapshots → new ≡ snapshots ++ snapshot ∷ [] → IsSnapshotNumber new number snapshot
last_number snapshots new snapshot number is more = record {
  it = snapshot;
  is_there = (λ i. slice_get (more i) (is i)) ∙ slice_get_last snapshots snapshot;
  same = λ build less. refl;
}
