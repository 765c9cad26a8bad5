-- Proofs that the text of a run's RMM calls grows by the calls of each further turn.
use Rattle.std.proofs.Common.{◌≡◌, ℕ, ◌+◌, ◌<◌, ◌≤◌, List, [], ◌∷◌, ◌++◌, length, take, get_or, Option, refl, sym, ap, ◌∙◌, subst}
use Rattle.std.proofs.lemmas.List.{take_all, take_more}
use Rattle.command_line.specs.declared.realmview.CallsForm.{CallsForm}
use Rattle.history_calls.specs.Frame.{Place}
use Rattle.realm_plan.specs.Plan.{Plan}
use Rattle.plan_replay.specs.Run.{Position}
use Rattle.view_program.specs.Calls.{AppendsCallsOfTurn, AppendsCallsOfTurns}

module _ (form : CallsForm) (frame : Place) (plan : Plan) where
  more : (order : List ℕ) (runs pages next : List (Option ℕ)) (from mid : Position) (build : ℕ) (to : Position) (old text new : List ℕ)
      → AppendsCallsOfTurns form frame plan order runs pages from mid old text
      → AppendsCallsOfTurn form frame plan pages next mid build to text new → AppendsCallsOfTurns form frame plan (order ++ build ∷ []) runs next from to old new
  more [] runs pages next from mid build to old text new before this = (
    to,
    new,
    next,
    subst (λ at. AppendsCallsOfTurn form frame plan runs next at build to old new) before.0
        (subst (λ t. AppendsCallsOfTurn form frame plan runs next mid build to t new) before.1
        (subst (λ these. AppendsCallsOfTurn form frame plan these next mid build to text new) before.2 this)),
    (refl, refl, refl),
  )
  more (first ∷ order) runs pages next from mid build to old text new before this =
      (before.0, before.1, before.2, before.3, more order before.2 pages next before.0 mid build to before.1 text new before.4 this)

  -- appending the text of the schedule's next turn to that of the first `i` turns gives the text of the first `i + 1`
  pub calls_more : (order items : List ℕ) (i : ℕ) (runs pages next : List (Option ℕ)) (from mid : Position) (build : ℕ) (to : Position) (old text new : List ℕ)
      → items ≡ order → i < length items
      → build ≡ get_or items i build → AppendsCallsOfTurns form frame plan (take i order) runs pages from mid old text
      → AppendsCallsOfTurn form frame plan pages next mid build to text new → AppendsCallsOfTurns form frame plan (take (i + 1) order) runs next from to old new
  calls_more order items i runs pages next from mid build to old text new same inside is before this =
      let taken : take i order ++ build ∷ [] ≡ take (i + 1) order = ap (λ b. take i order ++ b ∷ []) (is ∙ ap (λ xs. get_or xs i build) same)
      ∙ sym (take_more order i build (subst (λ xs. i < length xs) same inside)) in
      subst (λ turns. AppendsCallsOfTurns form frame plan turns runs next from to old new) taken (more (take i order) runs pages next from mid build to old text new before this)

  -- the text of the first `i` turns is the text of all turns, if the schedule has no more than `i`
  pub calls_whole : (order items : List ℕ) (i : ℕ) (runs next : List (Option ℕ)) (from to : Position) (old new : List ℕ) → items ≡ order → length items ≤ i
      → AppendsCallsOfTurns form frame plan (take i order) runs next from to old new → AppendsCallsOfTurns form frame plan order runs next from to old new
  calls_whole order items i runs next from to old new same done =
      subst (λ turns. AppendsCallsOfTurns form frame plan turns runs next from to old new) (take_all i order (subst (λ xs. length xs ≤ i) same done))
