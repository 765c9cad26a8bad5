-- A proof that the explained turns of a run, with one more explained turn at the end, are those of the longer schedule.
use Rattle.std.proofs.Common.{◌≡◌, ℕ, ◌+◌, ◌<◌, ◌≤◌, List, [], ◌∷◌, ◌++◌, length, take, get_or, map, Some, None, refl, sym, ap, ◌∙◌, slice_set, subst}
use Rattle.std.proofs.lemmas.List.{map-append, take_all, take_more}
use Rattle.host_ledger.specs.View.{HostView}
use Rattle.realm_plan.specs.declared.step.PlanStep.{PlanStep}
use Rattle.realm_plan.specs.Plan.{Plan}
use Rattle.plan_replay.specs.declared.place.PlanCursor.{PlanCursor}
use Rattle.plan_replay.specs.Run.{Position, Turn, start, place_of, step_after, IsTurn}
use Rattle.explain.specs.Explained.{TurnReport, Explained, idle_report, report_at, IsExplainedStep, IsExplainedTurn, AreExplained}

-- a turn of a build without a step left, reported as idle, is an explained turn
pub idle_turn :
    (plan : Plan) (at : Position) (id build : ℕ) (report : TurnReport)
    → id ≡ build
    → step_after plan build (place_of at.places build).done ≡ None
    → report ≡ idle_report id
    → IsExplainedTurn plan at build at report
idle_turn plan at id build report is_id no_step is_report = record {
  turn = record { build = build; told = None };
  of_build = refl;
  is_turn = rw no_step (refl, refl);
  reported = is_report ∙ ap idle_report is_id;
}

-- a turn that takes the build's next step, with the answer and the reason reported, is an explained turn
pub step_turn :
    (plan : Plan) (from : Position) (id build : ℕ) (step : PlanStep) (host : HostView) (moved : PlanCursor) (report : TurnReport)
    → id ≡ build
    → step_after plan build (place_of from.places build).done ≡ Some step
    → IsExplainedStep plan.gives_up from.host id (place_of from.places build) step host moved report
    → IsExplainedTurn plan from build (record { host = host; places = slice_set from.places build moved }) report
step_turn plan from id build step host moved report is_id is_step made =
    let same : IsExplainedStep plan.gives_up from.host build (place_of from.places build) step host moved report = subst
    (λ b. IsExplainedStep plan.gives_up from.host b (place_of from.places build) step host moved report) is_id made in
    record {
      turn = record { build = build; told = Some (step, same.answer) };
      of_build = refl;
      is_turn = rw is_step (same.answer, same.left, refl, same.is_turn, ap (slice_set from.places build) same.moved);
      reported = same.reported;
    }

-- an explained run with one more turn of the plan appended is an explained run
pub AreExplained-more :
    (plan : Plan) (order : List ℕ) (from : Position) (turns : List Explained) (at : Position) (build : ℕ) (turn : Turn) (to : Position)
    → AreExplained plan order from turns at
    → turn.build ≡ build
    → IsTurn plan at turn to
    → AreExplained plan (order ++ build ∷ []) from (turns ++ record { at = at; turn = turn } ∷ []) to
AreExplained-more plan [] from [] at build turn to run of_build is_turn =
    (run, of_build, to, subst (λ p. IsTurn plan p turn to) run is_turn, refl)
AreExplained-more plan [] from (t ∷ turns) at build turn to run of_build is_turn = elim run [ ]
AreExplained-more plan (b ∷ order) from [] at build turn to run of_build is_turn = elim run [ ]
AreExplained-more plan (b ∷ order) from (t ∷ turns) at build turn to run of_build is_turn =
    (run.0, run.1, run.2, run.3, AreExplained-more plan order run.2 turns at build turn to run.4 of_build is_turn)

-- ---- the front of an order

-- Explained turns of the builds in `order` lead from the start to the position `to`, with the reports `reports`.
pub record IsFront (plan : Plan) (from : HostView) (order : List ℕ) (to : Position) (reports : List TurnReport) : Type 0 where
  pub turns : List Explained
  pub is_run : AreExplained plan order (start from) turns to
  pub reported : reports ≡ map report_at turns

module _ (plan : Plan) (from : HostView) (order : List ℕ) (i : ℕ) where
  -- if `IsFront` holds of the first i builds of `order`, an explained turn of the next build makes `IsFront` hold of
  -- the first i + 1
  pub front_more :
      (items : List ℕ) (build turn_build : ℕ) (at to : Position) (report : TurnReport) (between new : List TurnReport)
      → items ≡ order
      → i < length items
      → build ≡ get_or items i build
      → turn_build ≡ build
      → IsFront plan from (take i order) at between
      → IsExplainedTurn plan at turn_build to report
      → new ≡ between ++ report ∷ []
      → IsFront plan from (take (i + 1) order) to new
  front_more items build turn_build at to report between new same inside next of_build front turn appended =
      let taken : take i order ++ build ∷ [] ≡ take (i + 1) order = ap (λ b. take i order ++ b ∷ []) (next ∙ ap (λ xs. get_or xs i build) same)
      ∙ sym (take_more order i build (subst (λ xs. i < length xs) same inside)) in
      let e : Explained = record { at = at; turn = turn.turn } in
      record {
        turns = front.turns ++ e ∷ [];
        is_run = subst (λ o. AreExplained plan o (start from) (front.turns ++ e ∷ []) to) taken
            (AreExplained-more plan (take i order) (start from) front.turns at build turn.turn to front.is_run (turn.of_build ∙ of_build) turn.is_turn);
        reported = appended ∙ (λ k. front.reported k ++ turn.reported k ∷ []) ∙ sym (map-append report_at front.turns (e ∷ []));
      }

  -- if `order` has no more than i builds, explained turns of its first i builds are explained turns of all its builds
  pub front_whole : (items : List ℕ) (to : Position) (new : List TurnReport) → items ≡ order → length items ≤ i
      → IsFront plan from (take i order) to new → IsFront plan from order to new
  front_whole items to new same done =
      subst (λ o. IsFront plan from o to new) (take_all i order (subst (λ xs. length xs ≤ i) same done))
