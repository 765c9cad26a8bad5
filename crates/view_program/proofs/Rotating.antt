-- The loop invariant of a run in which builds take turns in rotation, and proofs that each turn preserves it.
use Rattle.std.proofs.Common.{◌≡◌, ℕ, ◌+◌, Bool, true, false, List, [], ◌∷◌, ◌++◌, Some, None, refl, sym, subst}
use Rattle.std.specs.Prelude.{◌&&◌, nat_le, Option}
use Rattle.std.specs.List.{range_with_len}
use Rattle.std.specs.Option.{option_or}
use Rattle.realm_plan.specs.Plan.{Plan}
use Rattle.view_program.specs.Chosen.{could, builds_left, lowest_of, Stage, IsStageTurn, AreChosen}
use Rattle.view_program.specs.Rotation.{in_rotation, lowest_from, AreInRotation, IsRotatedTo}
use Rattle.view_program.specs.declared.schedules.choice.Choice.{Choice}
use Rattle.view_program.proofs.Chosen.{found_is, lowest_is, AreChosen-more}

-- ---- the build that has the turn

both : (a b : Bool) → (a && b) ≡ true → b ≡ true
both true b is = is
both false b is = absurd cc

here_or_lowest : (here : Option ℕ) (left : List Bool) (build : ℕ) → ((x : ℕ) → here ≡ Some x → could left x ≡ true)
    → option_or here (lowest_of left) ≡ Some build → could left build ≡ true
here_or_lowest None left build found is = lowest_is left build is
here_or_lowest (Some x) left build found is = found build is

-- the build that has the next turn in the rotation has a step left
pub rotation_could : (from : ℕ) (left : List Bool) (build : ℕ) → in_rotation from left ≡ Some build → could left build ≡ true
unfolding in_rotation
rotation_could from left build is =
    let p : ℕ → Bool = λ b. nat_le from b && could left b in
    here_or_lowest (lowest_from from left) left build
    (λ x found. both (nat_le from x) (could left x) (found_is p (range_with_len 0 8) x found)) is

none_of : (here lowest : Option ℕ) → option_or here lowest ≡ None → lowest ≡ None
none_of None lowest is = is
none_of (Some x) lowest is = absurd cc

-- if no build has the next turn in the rotation, no build has a step left
pub none_lowest : (from : ℕ) (left : List Bool) → in_rotation from left ≡ None → lowest_of left ≡ None
unfolding in_rotation
none_lowest from left none = none_of (lowest_from from left) (lowest_of left) none

-- ---- so far

-- the build number from which the rotation goes on after these turns
abbrev pub reached : ℕ → List Choice → ℕ
reached from [] = from
reached from (choice ∷ choices) = reached (choice.build + 1) choices

pub record IsRotating (plan : Plan) (from : Stage) (choices : List Choice) (to : Stage) (next : ℕ) : Type 0 where
  pub are_in_rotation : AreInRotation 0 choices
  pub chosen : AreChosen plan from choices to
  pub next_is : next ≡ reached 0 choices

pub IsRotating-none : (plan : Plan) (from : Stage) (choices : List Choice) → choices ≡ [] → IsRotating plan from choices from 0
IsRotating-none plan from choices none = rw none (record { are_in_rotation = tt; chosen = refl; next_is = refl })

AreInRotation-more : (from : ℕ) (choices : List Choice) (choice : Choice)
    → AreInRotation from choices → in_rotation (reached from choices) choice.left ≡ Some choice.build
    → AreInRotation from (choices ++ choice ∷ [])
AreInRotation-more from [] choice is turn = (turn, tt)
AreInRotation-more from (c ∷ choices) choice is turn = (is.0, AreInRotation-more (c.build + 1) choices choice is.1 turn)

reached-more : (from : ℕ) (choices : List Choice) (choice : Choice) → reached from (choices ++ choice ∷ []) ≡ choice.build + 1
reached-more from [] choice = refl
reached-more from (c ∷ choices) choice = reached-more (c.build + 1) choices choice

pub IsRotating-more :
    (plan : Plan) (from : Stage) (choices : List Choice) (at : Stage) (choice : Choice) (to : Stage) (new : List Choice) (now next : ℕ)
    → IsRotating plan from choices at now
    → choice.left ≡ builds_left plan at.at.places → in_rotation now choice.left ≡ Some choice.build → IsStageTurn plan at choice.build to
    → new ≡ choices ++ choice ∷ [] → next ≡ choice.build + 1
    → IsRotating plan from new to next
IsRotating-more plan from choices at choice to new now next is left turn step pushed moved = rw (pushed, moved) (record {
  are_in_rotation = AreInRotation-more 0 choices choice is.are_in_rotation (subst (λ n. in_rotation n choice.left ≡ Some choice.build) is.next_is turn);
  chosen = AreChosen-more plan from choices at choice to is.chosen (record { left = left; could = rotation_could now choice.left choice.build turn }) step;
  next_is = sym (reached-more 0 choices choice);
})

pub IsRotatedTo-whole :
    (plan : Plan) (from : Stage) (choices : List Choice) (to : Stage) (now : ℕ) (left : List Bool)
    → IsRotating plan from choices to now → left ≡ builds_left plan to.at.places → in_rotation now left ≡ None
    → IsRotatedTo plan from choices to
IsRotatedTo-whole plan from choices to now left is same none = record {
  are_in_rotation = is.are_in_rotation;
  chosen = is.chosen;
  whole = subst (λ l. lowest_of l ≡ None) same (none_lowest now left none);
}
