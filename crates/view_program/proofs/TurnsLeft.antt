-- Proofs that each turn of a build with a step left lowers the bound on the number of further turns, and that a turn
-- whose command is refused ends its step.
use Rattle.std.proofs.Common.{◌≡◌, ◌≢◌, ℕ, zero, suc, ◌+◌, ◌-◌, ◌*◌, ◌^◌, ◌<◌, ◌≤◌, ◌==◌, if◌then◌else◌, Bool, true, false, List, [], ◌∷◌, length, Option, Some, None, Result, Ok, Err, ◌⊎◌}
use Rattle.std.proofs.Common.{inl, inr, slice_set, slice_index_or, replicate, ap, sym, subst, ◌∙◌, refl, arith}
use Rattle.std.specs.Prelude.{nat_le, nat_lt, slice_get, is_some, option_and_then}
use Rattle.std.specs.Bool.{OnTrue, OnFalse}
use Rattle.std.proofs.lemmas.Bool.{cases_Bool, leb-false, lt-ltb, ltb-true, ltb-false}
use Rattle.std.proofs.lemmas.Bool.Decides.{eqb_tells}
use Rattle.std.proofs.lemmas.List.{get_or-set_same, get_or-set_other, length-set}
use Rattle.std.proofs.lemmas.Option.{slice_get_within}
use Rattle.host_ledger.specs.View.{HostView}
use Rattle.host_commands.specs.declared.cmd.Step.TheVariants.{Ask, Undo, Abort, Mark, Back}
use Rattle.host_commands.specs.declared.refusal.Refusal.{Refusal}
use Rattle.host_commands.specs.declared.reply.Undone.{Undone}
use Rattle.realm_plan.specs.Asked.{asked}
use Rattle.realm_plan.specs.declared.step.PlanStep.{PlanStep}
use Rattle.realm_plan.specs.declared.step.PlanStep.TheVariants.{Whole, WidthLeftOut}
use Rattle.realm_plan.specs.Plan.{Plan}
use Rattle.plan_replay.specs.Place.{first_place, giving_up, is_refusal, moved_on, number_after}
use Rattle.plan_replay.specs.Turn.{undoes_many}
use Rattle.plan_replay.specs.Run.{Position, Turn, given_up, place_of, step_after, step_numbered, IsTurnOf, IsTurn}
use Rattle.plan_replay.specs.Turn.{answer_of_one, left_after, undos_to_go, above_mark, IsOneOfMany, IsTurnOfMany, IsToAbort, IsStepTurn}
use Rattle.plan_replay.specs.declared.answer.TurnAnswer.{TurnAnswer}
use Rattle.plan_replay.specs.declared.answer.TurnAnswer.TheVariants.{Nothing, Ended, Undone as Undid}
use Rattle.plan_replay.specs.declared.place.PlanCursor.{PlanCursor}
use Rattle.view_program.specs.Chosen.{refusal_in, refusal_of_turn}
use Rattle.view_program.specs.TurnsLeft.{is_of_many, AreSteady, steps_left, turns_of_place, turns_left}

-- ---- a step's turn

-- Both cursors are at the same step. No undos of the step are left at `before`, none are left at `after`, or fewer are
-- left at `after` than at `before`.
record IsLess (before after : PlanCursor) : Type 0 where
  done : after.done ≡ before.done
  less : (after.left ≡ 0) ⊎ ((before.left ≡ 0) ⊎ (after.left < before.left))

less_same : (before after : PlanCursor) → before.left ≡ 0 → after ≡ before → IsLess before after
less_same before after none same = record { done = ap (λ (p : PlanCursor). p.done) same; less = inl (ap (λ (p : PlanCursor). p.left) same ∙ none) }

-- `n == 0` is true and `n` is 0, or it is false and `n` is above 0
zero_or_not : (n : ℕ) → ((n == 0) ≡ true) × (n ≡ 0) ⊎ ((n == 0) ≡ false) × (0 < n)
zero_or_not n = elim (eqb_tells n 0) as (λ _. ((n == 0) ≡ true) × (n ≡ 0) ⊎ ((n == 0) ≡ false) × (0 < n)) [
  | inl none ↦ inl none
  | inr more ↦ inr (more.0, (let some : n ≢ 0 = more.1 in omega arith))
]

-- if the cursor has undos left, the result `count` is `Ok` of their number
abbrev Counts : Result ℕ Refusal → PlanCursor → Type 0
Counts count place = OnFalse (place.left == 0) (count ≡ Ok place.left)

less_one :
    (count : ℕ) (place : PlanCursor) (result : Result Undone Refusal) (after : PlanCursor)
    → Counts (Ok count) place
    → after ≡ record place { left = left_after (count - 1) result }
    → 0 < count
    → IsLess place after
less_one count place (Err refusal) after known is some =
    record { done = ap (λ (p : PlanCursor). p.done) is; less = inl (ap (λ (p : PlanCursor). p.left) is) }
less_one count place (Ok it) after known is some =
    record {
      done = ap (λ (p : PlanCursor). p.done) is;
      less = inr (elim (zero_or_not place.left) as (λ _. (place.left ≡ 0) ⊎ (after.left < place.left)) [
        | inl none ↦ inl none.1
        | inr more ↦ inr (let e : after.left ≡ count - 1 = ap (λ (p : PlanCursor). p.left) is in
            let same = subst (λ b. OnFalse b (◌≡◌ {A = Result ℕ Refusal} (Ok count) (Ok place.left))) more.0 known in
            let k : count ≡ place.left = cc in omega arith)
      ]);
    }

less_none :
    (count : ℕ) (host : HostView) (build : ℕ) (place : PlanCursor) (answer : TurnAnswer) (new : HostView) (after : PlanCursor)
    → Counts (Ok count) place
    → ((count == 0) ≡ true) × (count ≡ 0)
    → IsTurnOfMany (Ok count) host build place answer new after
    → IsLess place after
less_none count host build place answer new after known none is =
    let same = subst (λ b. OnTrue b ((answer ≡ Nothing) × (new ≡ host) × (after ≡ place))) none.0 is.0 in
    elim (zero_or_not place.left) as (λ _. IsLess place after) [
      | inl still ↦ less_same place after still.1 same.2
      | inr more ↦ (let e = subst (λ b. OnFalse b (◌≡◌ {A = Result ℕ Refusal} (Ok count) (Ok place.left))) more.0 known in
          let k : count ≡ place.left = cc in absurd (omega arith))
    ]

less_many :
    (count : Result ℕ Refusal) (host : HostView) (build : ℕ) (place : PlanCursor) (answer : TurnAnswer) (new : HostView) (after : PlanCursor)
    → Counts count place
    → IsTurnOfMany count host build place answer new after
    → IsLess place after
less_many (Err refusal) host build place answer new after known is =
    elim (zero_or_not place.left) as (λ _. IsLess place after) [
      | inl none ↦ less_same place after none.1 is.2
      | inr more ↦ (let e = subst (λ b. OnFalse b (◌≡◌ {A = Result ℕ Refusal} (Err refusal) (Ok place.left))) more.0 known in absurd cc)
    ]
less_many (Ok count) host build place answer new after known is =
    elim (zero_or_not count) as (λ _. IsLess place after) [
      | inl none ↦ less_none count host build place answer new after known none is
      | inr more ↦ (let one : IsOneOfMany host build place (count - 1) answer new after = subst (λ b. OnFalse b (IsOneOfMany host build place (count - 1) answer new after)) more.0 is.1 in
          less_one count place one.result after known one.place_is more.1)
    ]

abort_counts : (host : HostView) (build : ℕ) (place : PlanCursor) (count : Result ℕ Refusal) (begun : HostView) → IsToAbort host build place count begun → Counts count place
abort_counts host build place count begun is =
    elim (place.left == 0) as (λ b. OnFalse b ((count ≡ Ok place.left) × (begun ≡ host)) → OnFalse b (count ≡ Ok place.left)) [ true ↦ λ _. tt | false ↦ λ w. w.0 ] is.1

back_counts : (host : HostView) (build : ℕ) (place : PlanCursor) → Counts (undos_to_go host build place) place
back_counts host build place =
    elim (place.left == 0) as (λ b. OnFalse b ((if b then above_mark host build place.mark else Ok place.left) ≡ Ok place.left)) [ true ↦ tt | false ↦ refl ]

abbrev IsLessOf : PlanStep → PlanCursor → PlanCursor → Type 0
IsLessOf step before after = IsLess before after × (undoes_many step ≡ false → after.left ≡ 0)

less_single : (step : PlanStep) (before after : PlanCursor) → before.left ≡ 0 → after.left ≡ before.left → after.done ≡ before.done → IsLessOf step before after
less_single step before after none left done = (record { done = done; less = inl (left ∙ none) }, λ _. left ∙ none)

less_step :
    (host : HostView) (build : ℕ) (place : PlanCursor) (step : PlanStep) (answer : TurnAnswer) (new : HostView) (after : PlanCursor)
    → (undoes_many step ≡ false → place.left ≡ 0)
    → IsStepTurn host build place (asked step) answer new after
    → IsLessOf step place after
less_step host build place (Whole (Ask cmd)) answer new after steady is =
    less_single (Whole (Ask cmd)) place after (steady refl) (ap (λ (p : PlanCursor). p.left) is.1) (ap (λ (p : PlanCursor). p.done) is.1)
less_step host build place (Whole Undo) answer new after steady is =
    less_single (Whole Undo) place after (steady refl) (ap (λ (p : PlanCursor). p.left) is.1) (ap (λ (p : PlanCursor). p.done) is.1)
less_step host build place (Whole Abort) answer new after steady is =
    (less_many is.count is.begun build place answer new after (abort_counts host build place is.count is.begun is.to_undo) is.is_turn, λ no. absurd cc)
less_step host build place (Whole Mark) answer new after steady is =
    less_single (Whole Mark) place after (steady refl) (ap (λ (p : PlanCursor). p.left) is.place_is) (ap (λ (p : PlanCursor). p.done) is.place_is)
less_step host build place (Whole Back) answer new after steady is =
    (less_many (undos_to_go host build place) host build place answer new after (back_counts host build place) is, λ no. absurd cc)
less_step host build place (WidthLeftOut rd root) answer new after steady is =
    less_single (WidthLeftOut rd root) place after (steady refl) (ap (λ (p : PlanCursor). p.left) is.1) (ap (λ (p : PlanCursor). p.done) is.1)

-- ---- fewer turns

-- if a build that has given up has a step at `number`, then `number` is `giving_up`
fewer_beyond : (number : ℕ) (step : PlanStep) → given_up number ≡ Some step → number ≡ giving_up
fewer_beyond number step is = elim (eqb_tells number giving_up) as (λ _. number ≡ giving_up) [
  | inl same ↦ same.1
  | inr apart ↦ absurd (let none : given_up number ≡ None = rw apart.0 refl in let no = sym is ∙ none in cc)
]

-- `nat_lt n m` is true and `n` is below `m`, or it is false and `n` is not below `m`
below_or_not : (n m : ℕ) → (nat_lt n m ≡ true) × (n < m) ⊎ (nat_lt n m ≡ false) × (m ≤ n)
below_or_not n m = elim (cases_Bool (nat_lt n m)) as (λ _. (nat_lt n m ≡ true) × (n < m) ⊎ (nat_lt n m ≡ false) × (m ≤ n)) [
  | inl below ↦ inl (below, ltb-true n m below)
  | inr past ↦ inr (past, ltb-false n m past)
]

-- for a build that gives up, and that has not reached `giving_up`, the bound is its remaining steps plus an abort
left_below : (steps : List PlanStep) (number : ℕ) → number < giving_up → steps_left true steps number ≡ length steps - number + 1
left_below steps number below = rw (lt-ltb number giving_up below) refl

left_beyond : (steps : List PlanStep) (number : ℕ) → giving_up ≤ number → steps_left true steps number ≡ giving_up + 1 - number
left_beyond steps number past = elim (below_or_not number giving_up) as (λ _. steps_left true steps number ≡ giving_up + 1 - number) [
  | inl below ↦ absurd (let less = below.1 in omega arith)
  | inr beyond ↦ rw beyond.0 refl
]

-- in a build that gives up, each step of the plan lowers the bound on the steps left
next_below : (steps : List PlanStep) (number next : ℕ) → number < length steps → number < giving_up → (next ≡ giving_up) ⊎ (next ≡ number + 1)
    → steps_left true steps next + 1 ≤ steps_left true steps number
next_below steps number next there below (inl gives_up) =
    let now = left_below steps number below in
    let later = left_beyond steps next (omega (arith, gives_up)) in
    omega (arith, now, later, gives_up)
next_below steps number next there below (inr goes_on) =
    let now = left_below steps number below in
    elim (below_or_not next giving_up) as (λ _. steps_left true steps next + 1 ≤ steps_left true steps number) [
      | inl still ↦ (let later = left_below steps next still.1 in omega (arith, now, later, goes_on))
      | inr beyond ↦ (let past = beyond.1 in let later = left_beyond steps next past in omega (arith, now, later, goes_on, past))
    ]

next_is : (refused : Bool) (number : ℕ) → (number_after true refused number ≡ giving_up) ⊎ (number_after true refused number ≡ number + 1)
next_is false number = inr refl
next_is true number = elim (nat_lt number giving_up) as (λ t. ((if t then giving_up else number + 1) ≡ giving_up) ⊎ ((if t then giving_up else number + 1) ≡ number + 1)) [
  | true ↦ inl refl
  | false ↦ inr refl
]

next_beyond : (refused : Bool) (number : ℕ) → giving_up ≤ number → number_after true refused number ≡ number + 1
next_beyond false number past = refl
next_beyond true number past = elim (below_or_not number giving_up) as (λ _. number_after true true number ≡ number + 1) [
  | inl below ↦ absurd (let less = below.1 in omega arith)
  | inr beyond ↦ rw beyond.0 refl
]

fewer_steps : (gives_up refused : Bool) (steps : List PlanStep) (number : ℕ) (step : PlanStep) → step_numbered gives_up steps number ≡ Some step
    → steps_left gives_up steps (number_after gives_up refused number) + 1 ≤ steps_left gives_up steps number
fewer_steps false refused steps number step is = let there = slice_get_within steps number step is in omega arith
fewer_steps true refused steps number step is = at (nat_le giving_up number) refl is
  where
    at : (t : Bool) → nat_le giving_up number ≡ t → (if t then given_up number else slice_get steps number) ≡ Some step
        → steps_left true steps (number_after true refused number) + 1 ≤ steps_left true steps number
    at false below there =
        next_below steps number (number_after true refused number) (slice_get_within steps number step there) (leb-false giving_up number below) (next_is refused number)
    at true past gives =
        let same = fewer_beyond number step gives in
        let now = left_beyond steps number (omega (arith, same)) in
        let next = next_beyond refused number (omega (arith, same)) in
        let later = left_beyond steps (number_after true refused number) (omega (arith, same, next)) in
        omega (arith, same, now, next, later)

module _ (gives_up : Bool) (steps : List PlanStep) where
  abbrev turns_of : PlanCursor → ℕ
  turns_of place = turns_of_place gives_up steps place

  abbrev left_at : ℕ → ℕ
  left_at done = steps_left gives_up steps done

  at_work : (place : PlanCursor) → (place.left == 0) ≡ false → turns_of place ≡ (left_at place.done - 1) * 2 ^ 16 + place.left
  at_work place some = rw some refl

  at_rest : (place : PlanCursor) → (place.left == 0) ≡ true → turns_of place ≡ left_at place.done * 2 ^ 16
  at_rest place none = rw none refl

-- with fewer steps left, and no undos under way, the bound on the turns is lower
rest_to_rest : (new old : ℕ) → new + 1 ≤ old → new * 2 ^ 16 < old * 2 ^ 16
rest_to_rest new old less = omega arith

work_to_rest : (new old left : ℕ) → new + 1 ≤ old → 0 < left → new * 2 ^ 16 < (old - 1) * 2 ^ 16 + left
work_to_rest new old left less some = omega arith

rest_to_work : (old left : ℕ) → 0 < old → left < 2 ^ 16 → (old - 1) * 2 ^ 16 + left < old * 2 ^ 16
rest_to_work old left some few = omega arith

work_to_work : (old left before : ℕ) → left < before → (old - 1) * 2 ^ 16 + left < (old - 1) * 2 ^ 16 + before
work_to_work old left before less = omega arith

is_below : (before after : PlanCursor) → (after.left ≡ 0) ⊎ ((before.left ≡ 0) ⊎ (after.left < before.left)) → 0 < after.left → 0 < before.left → after.left < before.left
is_below before after (inl none) some more = absurd (omega arith)
is_below before after (inr (inl none)) some more = absurd (omega arith)
is_below before after (inr (inr less)) some more = less

-- A turn in which a build takes a step, after which the step is finished or has undos left.
module _ (gives_up : Bool) (steps : List PlanStep) (answer : TurnAnswer) (before after : PlanCursor) (step : PlanStep) (is : step_numbered gives_up steps before.done ≡ Some step) where
  abbrev moved : PlanCursor
  moved = moved_on gives_up answer after

  abbrev next : ℕ
  next = number_after gives_up (is_refusal answer) after.done

  used_up : (after.left == 0) ≡ true → turns_of gives_up steps moved ≡ left_at gives_up steps next * 2 ^ 16
  used_up none = rw none (rw none refl)

  on_its_way : (after.left == 0) ≡ false → moved ≡ after
  on_its_way some = rw some refl

  fewer : left_at gives_up steps (number_after gives_up (is_refusal answer) before.done) + 1 ≤ left_at gives_up steps before.done
  fewer = fewer_steps gives_up (is_refusal answer) steps before.done step is

  fewer_next : IsLess before after → left_at gives_up steps next + 1 ≤ left_at gives_up steps before.done
  fewer_next less = subst (λ (done : ℕ). left_at gives_up steps (number_after gives_up (is_refusal answer) done) + 1 ≤ left_at gives_up steps before.done) (sym less.done) fewer

  some_left : 0 < left_at gives_up steps before.done
  some_left = at (left_at gives_up steps (number_after gives_up (is_refusal answer) before.done)) (left_at gives_up steps before.done) fewer
    where
      at : (n m : ℕ) → n + 1 ≤ m → 0 < m
      at n m less = omega arith

  fewer_used : IsLess before after → (after.left == 0) ≡ true → turns_of gives_up steps moved < turns_of gives_up steps before
  fewer_used less none =
      subst (λ (n : ℕ). n < turns_of gives_up steps before) (sym (used_up none)) (
      elim (zero_or_not before.left) as (λ _. left_at gives_up steps next * 2 ^ 16 < turns_of gives_up steps before) [
        | inl still ↦ subst (λ (n : ℕ). left_at gives_up steps next * 2 ^ 16 < n) (sym (at_rest gives_up steps before still.0))
            (rest_to_rest (left_at gives_up steps next) (left_at gives_up steps before.done) (fewer_next less))
        | inr more ↦ subst (λ (n : ℕ). left_at gives_up steps next * 2 ^ 16 < n) (sym (at_work gives_up steps before more.0))
            (work_to_rest (left_at gives_up steps next) (left_at gives_up steps before.done) before.left (fewer_next less) more.1)
      ])

  fewer_under_way : IsLess before after → moved.left < 2 ^ 16 → ((after.left == 0) ≡ false) × (0 < after.left)
      → turns_of gives_up steps moved < turns_of gives_up steps before
  fewer_under_way less few some =
      let on = on_its_way some.0 in
      let left : after.left < 2 ^ 16 = subst (λ (p : PlanCursor). p.left < 2 ^ 16) on few in
      let new : turns_of gives_up steps moved ≡ (left_at gives_up steps before.done - 1) * 2 ^ 16 + after.left =
      ap (turns_of gives_up steps) on ∙ at_work gives_up steps after some.0 ∙ ap (λ (done : ℕ). (left_at gives_up steps done - 1) * 2 ^ 16 + after.left) less.done in
      subst (λ (n : ℕ). n < turns_of gives_up steps before) (sym new) (
      elim (zero_or_not before.left) as (λ _. (left_at gives_up steps before.done - 1) * 2 ^ 16 + after.left < turns_of gives_up steps before) [
        | inl still ↦ subst (λ (n : ℕ). (left_at gives_up steps before.done - 1) * 2 ^ 16 + after.left < n) (sym (at_rest gives_up steps before still.0))
            (rest_to_work (left_at gives_up steps before.done) after.left some_left left)
        | inr more ↦ subst (λ (n : ℕ). (left_at gives_up steps before.done - 1) * 2 ^ 16 + after.left < n) (sym (at_work gives_up steps before more.0))
            (work_to_work (left_at gives_up steps before.done) after.left before.left (is_below before after less.less some.1 more.1))
      ])

  -- a turn after which fewer than 2 ^ 16 undos are left lowers the bound on its build's further turns
  fewer_of_place : IsLess before after → moved.left < 2 ^ 16 → turns_of gives_up steps moved < turns_of gives_up steps before
  fewer_of_place less few =
      elim (zero_or_not after.left) as (λ _. turns_of gives_up steps moved < turns_of gives_up steps before) [
        | inl none ↦ fewer_used less none.0
        | inr more ↦ fewer_under_way less few more
      ]

first_fewer : (new old rest : ℕ) → new < old → new + rest < old + rest
first_fewer new old rest less = omega arith

rest_fewer : (first new old : ℕ) → new < old → first + new < first + old
rest_fewer first new old less = omega arith

-- if a turn lowers the bound for its build, it lowers the bound for all builds together
fewer_of_all :
    (gives_up : Bool) (builds : List (List PlanStep)) (places : List PlanCursor) (build : ℕ) (steps : List PlanStep) (after : PlanCursor)
    → slice_get builds build ≡ Some steps → build < length places
    → turns_of_place gives_up steps after < turns_of_place gives_up steps (slice_index_or places build first_place)
    → turns_left gives_up builds (slice_set places build after) < turns_left gives_up builds places
unfolding turns_left
fewer_of_all gives_up [] places build steps after there inside fewer = cc
fewer_of_all gives_up (s ∷ builds) [] build steps after there inside fewer = absurd (omega arith)
fewer_of_all gives_up (s ∷ builds) (p ∷ places) zero steps after there inside fewer =
    let same : s ≡ steps = cc in
    first_fewer (turns_of_place gives_up s after) (turns_of_place gives_up s p) (turns_left gives_up builds places)
    (subst (λ ss. turns_of_place gives_up ss after < turns_of_place gives_up ss p) (sym same) fewer)
fewer_of_all gives_up (s ∷ builds) (p ∷ places) (suc build) steps after there inside fewer =
    rest_fewer (turns_of_place gives_up s p) (turns_left gives_up builds (slice_set places build after)) (turns_left gives_up builds places)
    (fewer_of_all gives_up builds places build steps after there (omega arith) fewer)

-- ---- of a turn

moved_left : (gives_up : Bool) (answer : TurnAnswer) (after : PlanCursor) → (moved_on gives_up answer after).left ≡ after.left
moved_left gives_up answer after =
    elim (after.left == 0) as (λ b. (if b then record after { done = number_after gives_up (is_refusal answer) after.done } else after).left ≡ after.left) [ true ↦ refl | false ↦ refl ]

stays_at : (gives_up : Bool) (answer : TurnAnswer) (after : PlanCursor) → (after.left == 0) ≡ false → moved_on gives_up answer after ≡ after
stays_at gives_up answer after some = rw some refl

-- After a turn, the turn's build has the new cursor, and every other build has the cursor that it had before.
module _ (places : List PlanCursor) (build : ℕ) (after : PlanCursor) (new : List PlanCursor) (inside : build < length places) (is_new : new ≡ slice_set places build after) where
  place_of-same : place_of new build ≡ after
  place_of-same = ap (λ ps. place_of ps build) is_new ∙ get_or-set_same places build after first_place inside

  place_of-other : (other : ℕ) → other ≢ build → place_of new other ≡ place_of places other
  place_of-other other apart = ap (λ ps. place_of ps other) is_new ∙ get_or-set_other places build other after first_place apart

  all_new : length places ≡ 8 → length new ≡ 8
  all_new all = ap length is_new ∙ length-set places build after ∙ all

abbrev IsSteady : Plan → ℕ → PlanCursor → Type 0
IsSteady plan build place = is_of_many (step_after plan build place.done) ≡ false → place.left ≡ 0

steady_moved :
    (plan : Plan) (build : ℕ) (before : PlanCursor) (step : PlanStep) (answer : TurnAnswer) (after : PlanCursor)
    → step_after plan build before.done ≡ Some step
    → IsLessOf step before after
    → IsSteady plan build (moved_on plan.gives_up answer after)
steady_moved plan build before step answer after is less single =
    moved_left plan.gives_up answer after ∙ elim (zero_or_not after.left) as (λ _. after.left ≡ 0) [
      | inl none ↦ none.1
      | inr some ↦ less.1 (sym (ap is_of_many (ap (step_after plan build) (ap (λ (p : PlanCursor). p.done) (stays_at plan.gives_up answer after some.0) ∙ less.0.done) ∙ is)) ∙ single)
    ]

less_of_turn :
    (plan : Plan) (from : Position) (turn : Turn) (to : Position) (step : PlanStep)
    → AreSteady plan from.places → step_after plan turn.build (place_of from.places turn.build).done ≡ Some step
    → (is : IsTurnOf plan.gives_up (Some step) from turn to)
    → IsLessOf step (place_of from.places turn.build) is.1
less_of_turn plan from turn to step steady there is =
    less_step from.host turn.build (place_of from.places turn.build) step is.0 to.host is.1
    (λ single. steady.steady turn.build (ap is_of_many there ∙ single)) is.3

steady_of :
    (plan : Plan) (from : Position) (turn : Turn) (to : Position) (step : Option PlanStep)
    → AreSteady plan from.places → turn.build < 8 → step_after plan turn.build (place_of from.places turn.build).done ≡ step
    → IsTurnOf plan.gives_up step from turn to
    → AreSteady plan to.places
steady_of plan from turn to None steady inside there is = subst (λ (p : Position). AreSteady plan p.places) (sym is.1) steady
steady_of plan from turn to (Some step) steady inside there is =
    let all = steady.all in
    let within : turn.build < length from.places = omega arith in
    let less = less_of_turn plan from turn to step steady there is in
    record {
      all = all_new from.places turn.build (moved_on plan.gives_up is.0 is.1) to.places within is.4 all;
      steady = λ build. elim (eqb_tells build turn.build) as (λ _. IsSteady plan build (place_of to.places build)) [
        | inl same ↦ subst (λ b. IsSteady plan b (place_of to.places b)) (sym same.1)
            (subst (λ p. IsSteady plan turn.build p) (sym (place_of-same from.places turn.build (moved_on plan.gives_up is.0 is.1) to.places within is.4))
            (steady_moved plan turn.build (place_of from.places turn.build) step is.0 is.1 there less))
        | inr other ↦ subst (λ p. IsSteady plan build p) (sym (place_of-other from.places turn.build (moved_on plan.gives_up is.0 is.1) to.places within is.4 build other.1)) (steady.steady build)
      ];
    }

pub steady_after :
    (plan : Plan) (from : Position) (turn : Turn) (to : Position)
    → AreSteady plan from.places → turn.build < 8 → IsTurn plan from turn to
    → AreSteady plan to.places
steady_after plan from turn to steady inside is =
    steady_of plan from turn to (step_after plan turn.build (place_of from.places turn.build).done) steady inside refl is

-- if `step_numbered` finds a step in an optional list of steps, the list is there, and `step_numbered` finds the same
-- step in it
of_build :
    (gives_up : Bool) (steps : Option (List PlanStep)) (done : ℕ) (step : PlanStep)
    → option_and_then (λ ss. step_numbered gives_up ss done) steps ≡ Some step
    → (ss : List PlanStep) × (steps ≡ Some ss) × (step_numbered gives_up ss done ≡ Some step)
of_build gives_up None done step is = absurd cc
of_build gives_up (Some ss) done step is = (ss, refl, is)

fewer_of :
    (plan : Plan) (from : Position) (turn : Turn) (to : Position) (step : Option PlanStep)
    → AreSteady plan from.places → turn.build < 8 → step_after plan turn.build (place_of from.places turn.build).done ≡ step
    → is_some step ≡ true → (place_of to.places turn.build).left < 2 ^ 16 → IsTurnOf plan.gives_up step from turn to
    → turns_left plan.gives_up plan.builds to.places < turns_left plan.gives_up plan.builds from.places
fewer_of plan from turn to None steady inside there some few is = absurd cc
fewer_of plan from turn to (Some step) steady inside there some few is =
    let all = steady.all in
    let within : turn.build < length from.places = omega arith in
    let less = less_of_turn plan from turn to step steady there is in
    let of = of_build plan.gives_up (slice_get plan.builds turn.build) (place_of from.places turn.build).done step there in
    let left : (moved_on plan.gives_up is.0 is.1).left < 2 ^ 16 = subst (λ (p : PlanCursor). p.left < 2 ^ 16) (place_of-same from.places turn.build (moved_on plan.gives_up is.0 is.1) to.places within is.4) few in
    subst (λ ps. turns_left plan.gives_up plan.builds ps < turns_left plan.gives_up plan.builds from.places) (sym is.4)
    (fewer_of_all plan.gives_up plan.builds from.places turn.build of.0 (moved_on plan.gives_up is.0 is.1) of.1 within
    (fewer_of_place plan.gives_up of.0 is.0 (place_of from.places turn.build) is.1 step of.2 less.0 left))

pub fewer_after :
    (plan : Plan) (from : Position) (turn : Turn) (to : Position)
    → AreSteady plan from.places → turn.build < 8 → is_some (step_after plan turn.build (place_of from.places turn.build).done) ≡ true
    → (place_of to.places turn.build).left < 2 ^ 16 → IsTurn plan from turn to
    → turns_left plan.gives_up plan.builds to.places < turns_left plan.gives_up plan.builds from.places
fewer_after plan from turn to steady inside some few is =
    fewer_of plan from turn to (step_after plan turn.build (place_of from.places turn.build).done) steady inside refl some few is

-- ---- a refused turn uses its step up

number_rises : (gives_up refused : Bool) (number : ℕ) → number < number_after gives_up refused number
number_rises false refused number = omega arith
number_rises true false number = omega arith
number_rises true true number = elim (below_or_not number giving_up) as (λ _. number < number_after true true number) [
  | inl below ↦ rw below.0 below.1
  | inr beyond ↦ rw beyond.0 (omega arith)
]

-- The answer is no refusal, or nothing is left to undo.
abbrev IsAcceptedOrAtRest : TurnAnswer → PlanCursor → Type 0
IsAcceptedOrAtRest answer after = (refusal_in answer ≡ None) ⊎ (after.left ≡ 0)

one_accepted : (left : ℕ) (it : Undone) → refusal_in (answer_of_one left (Ok it)) ≡ None
one_accepted left it = elim (left == 0) as (λ b. refusal_in (if b then Ended it.kind else Undid it.kind) ≡ None) [ true ↦ refl | false ↦ refl ]

one_of_many :
    (left : ℕ) (place : PlanCursor) (result : Result Undone Refusal) (answer : TurnAnswer) (after : PlanCursor)
    → answer ≡ answer_of_one left result → after ≡ record place { left = left_after left result }
    → IsAcceptedOrAtRest answer after
one_of_many left place (Ok it) answer after told is = inl (ap refusal_in told ∙ one_accepted left it)
one_of_many left place (Err refusal) answer after told is = inr (ap (λ (p : PlanCursor). p.left) is)

many :
    (count : Result ℕ Refusal) (host : HostView) (build : ℕ) (place : PlanCursor) (answer : TurnAnswer) (new : HostView) (after : PlanCursor)
    → Counts count place
    → IsTurnOfMany count host build place answer new after
    → IsAcceptedOrAtRest answer after
many (Err refusal) host build place answer new after known is =
    elim (zero_or_not place.left) as (λ _. IsAcceptedOrAtRest answer after) [
      | inl none ↦ inr (ap (λ (p : PlanCursor). p.left) is.2 ∙ none.1)
      | inr more ↦ (let e = subst (λ b. OnFalse b (◌≡◌ {A = Result ℕ Refusal} (Err refusal) (Ok place.left))) more.0 known in absurd cc)
    ]
many (Ok count) host build place answer new after known is =
    elim (zero_or_not count) as (λ _. IsAcceptedOrAtRest answer after) [
      | inl none ↦ (let same = subst (λ b. OnTrue b ((answer ≡ Nothing) × (new ≡ host) × (after ≡ place))) none.0 is.0 in inl (ap refusal_in same.0))
      | inr more ↦ (let one : IsOneOfMany host build place (count - 1) answer new after = subst (λ b. OnFalse b (IsOneOfMany host build place (count - 1) answer new after)) more.0 is.1 in
          one_of_many (count - 1) place one.result answer after one.told one.place_is)
    ]

accepted_or_at_rest :
    (host : HostView) (build : ℕ) (place : PlanCursor) (step : PlanStep) (answer : TurnAnswer) (new : HostView) (after : PlanCursor)
    → (undoes_many step ≡ false → place.left ≡ 0)
    → IsStepTurn host build place (asked step) answer new after
    → IsAcceptedOrAtRest answer after
accepted_or_at_rest host build place (Whole (Ask cmd)) answer new after steady is = inr (ap (λ (p : PlanCursor). p.left) is.1 ∙ steady refl)
accepted_or_at_rest host build place (Whole Undo) answer new after steady is = inr (ap (λ (p : PlanCursor). p.left) is.1 ∙ steady refl)
accepted_or_at_rest host build place (Whole Abort) answer new after steady is =
    many is.count is.begun build place answer new after (abort_counts host build place is.count is.begun is.to_undo) is.is_turn
accepted_or_at_rest host build place (Whole Mark) answer new after steady is = inr (ap (λ (p : PlanCursor). p.left) is.place_is ∙ steady refl)
accepted_or_at_rest host build place (Whole Back) answer new after steady is =
    many (undos_to_go host build place) host build place answer new after (back_counts host build place) is
accepted_or_at_rest host build place (WidthLeftOut rd root) answer new after steady is = inr (ap (λ (p : PlanCursor). p.left) is.1 ∙ steady refl)

moved_done : (gives_up : Bool) (answer : TurnAnswer) (after : PlanCursor) → after.left ≡ 0 → after.done < (moved_on gives_up answer after).done
moved_done gives_up answer after none = rw none (number_rises gives_up (is_refusal answer) after.done)

-- If as many steps are done as before, the turn was not refused.
accepted_of :
    (plan : Plan) (from : Position) (turn : Turn) (to : Position) (step : Option PlanStep)
    → AreSteady plan from.places → turn.build < 8 → step_after plan turn.build (place_of from.places turn.build).done ≡ step
    → IsTurnOf plan.gives_up step from turn to
    → (place_of from.places turn.build).done ≡ (place_of to.places turn.build).done
    → refusal_of_turn turn.told ≡ None
accepted_of plan from turn to None steady inside there is stays = ap refusal_of_turn is.0
accepted_of plan from turn to (Some step) steady inside there is stays =
    let all = steady.all in
    let within : turn.build < length from.places = omega arith in
    let less = less_of_turn plan from turn to step steady there is in
    let done = less.0.done in
    let place = place_of-same from.places turn.build (moved_on plan.gives_up is.0 is.1) to.places within is.4 in
    elim (accepted_or_at_rest from.host turn.build (place_of from.places turn.build) step is.0 to.host is.1
    (λ single. steady.steady turn.build (ap is_of_many there ∙ single)) is.3) as (λ _. refusal_of_turn turn.told ≡ None) [
      | inl accepted ↦ ap refusal_of_turn is.2 ∙ accepted
      | inr rest ↦ (let moved = subst (λ (p : PlanCursor). is.1.done < p.done) (sym place) (moved_done plan.gives_up is.0 is.1 rest) in absurd (omega arith))
    ]

pub accepted_where_it_stays :
    (plan : Plan) (from : Position) (turn : Turn) (to : Position)
    → AreSteady plan from.places → turn.build < 8 → IsTurn plan from turn to
    → ((place_of from.places turn.build).done == (place_of to.places turn.build).done) ≡ true
    → refusal_of_turn turn.told ≡ None
accepted_where_it_stays plan from turn to steady inside is stays =
    accepted_of plan from turn to (step_after plan turn.build (place_of from.places turn.build).done) steady inside refl is
    (elim (eqb_tells (place_of from.places turn.build).done (place_of to.places turn.build).done) as (λ _. (place_of from.places turn.build).done ≡ (place_of to.places turn.build).done) [
      | inl same ↦ same.1
      | inr other ↦ absurd (let o = other.0 in cc)
    ])

-- ---- before any step is done

first_at : (count build : ℕ) → slice_index_or (replicate count first_place) build first_place ≡ first_place
first_at zero build = refl
first_at (suc count) zero = refl
first_at (suc count) (suc build) = first_at count build

pub first_steady : (plan : Plan) → AreSteady plan (replicate 8 first_place)
first_steady plan = record { all = refl; steady = λ build _. ap (λ (p : PlanCursor). p.left) (first_at 8 build) }
