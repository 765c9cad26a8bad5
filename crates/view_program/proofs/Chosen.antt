-- Lemmas about the builds that are chosen for turns. A build that can be chosen has a step left, and one more choice
-- extends a run by a turn.
use Rattle.std.proofs.Common.{◌≡◌, ℕ, zero, suc, ◌<◌, Bool, true, false, List, [], ◌∷◌, ◌++◌, length, ◌+◌, Some, refl, sym, subst, ◌∙◌, cond, arith}
use Rattle.std.specs.List.{find, range_with_len}
use Rattle.std.proofs.lemmas.List.FromFn.{get_or-map-range_with_len}
use Rattle.realm_plan.specs.Plan.{Plan}
use Rattle.plan_replay.specs.declared.place.PlanCursor.{PlanCursor}
use Rattle.view_program.specs.Chosen.{could, has_left, builds_left, lowest_of, IsOpen, Stage, IsStageTurn, AreChosen}
use Rattle.view_program.specs.declared.schedules.choice.Choice.{Choice}

-- ---- what can be chosen

pub could_inside : (left : List Bool) (build : ℕ) → could left build ≡ true → build < length left
could_inside [] build can = absurd cc
could_inside (b ∷ left) zero can = omega arith
could_inside (b ∷ left) (suc build) can = let ih = could_inside left build can in omega arith

pub found_is : (p : ℕ → Bool) (xs : List ℕ) (x : ℕ) → find p xs ≡ Some x → p x ≡ true
found_is p [] x is = absurd cc
found_is p (y ∷ xs) x is =
    elim (p y) as (λ b. p y ≡ b → cond b (Some y) (find p xs) ≡ Some x → p x ≡ true) [
      | true ↦ λ here is_it. (let same : y ≡ x = cc in subst (λ z. p z ≡ true) same here)
      | false ↦ λ not_here there. found_is p xs x there
    ] refl is

-- if the flags of `builds_left` allow a build the turn, the build's number is below 8 and the build has a step left
pub could_is : (plan : Plan) (places : List PlanCursor) (left : List Bool) (build : ℕ) → left ≡ builds_left plan places → could left build ≡ true → (build < 8) ×
    (has_left plan places build ≡ true)
unfolding builds_left
could_is plan places left build is can =
    let inside : build < 8 = could_inside (builds_left plan places) build (subst (λ l. could l build ≡ true) is can) in
    (inside, sym (get_or-map-range_with_len (has_left plan places) 0 8 build build false inside (omega arith)) ∙ subst (λ l. could l build ≡ true) is can)

pub lowest_is : (left : List Bool) (build : ℕ) → lowest_of left ≡ Some build → could left build ≡ true
unfolding lowest_of
lowest_is left build is = found_is (could left) (range_with_len 0 8) build is

-- ---- one more choice

pub AreChosen-more :
    (plan : Plan) (from : Stage) (front : List Choice) (at : Stage) (choice : Choice) (to : Stage)
    → AreChosen plan from front at → IsOpen plan at.at.places choice → IsStageTurn plan at choice.build to
    → AreChosen plan from (front ++ choice ∷ []) to
AreChosen-more plan from [] at choice to is can step =
    (subst (λ (s : Stage). IsOpen plan s.at.places choice) is can, to, subst (λ s. IsStageTurn plan s choice.build to) is step, refl)
AreChosen-more plan from (first ∷ front) at choice to is can step =
    (is.0, is.1, is.2, AreChosen-more plan is.1 front at choice to is.3 can step)
