-- Lemmas on the steps of builds along a path: each turn ends its build's next step or none, and so each build's steps
-- end in sequence.
use Rattle.std.proofs.Common.{◌≡◌, ℕ, suc, ◌+◌, ◌-◌, ◌<◌, ◌≤◌, ◌==◌, ◌&&◌, inl, inr, Bool, true, false, cond, List, [], ◌∷◌, ◌++◌, map, length, Option, Some, None, is_some, refl, sym, ap, subst, ◌∙◌, arith, eqb-true, eq-eqb, ne_eqb}
use Rattle.std.specs.Prelude.{filter, fold, option_and_then, option_map, option_to_list, slice_get, unwrap_or}
use Rattle.std.specs.List.{range_with_len}
use Rattle.std.proofs.lemmas.Bool.{and_parts, both_ways, cases_eq}
use Rattle.std.proofs.lemmas.List.Sums.{sum_by-cons}
use Rattle.std.proofs.lemmas.Option.{slice_get_cases}
use Rattle.realm_plan.specs.Plan.{Plan}
use Rattle.realm_plan.specs.declared.step.PlanStep.{PlanStep}
use Rattle.plan_replay.specs.Place.{number_after}
use Rattle.plan_replay.specs.Run.{step_after, step_numbered}
use Rattle.schedule_graph.specs.Paths.{Path}
use Rattle.schedule_graph.specs.declared.graph.Edge.{Edge}
use Rattle.plan_states.specs.Lines.{step_number}
use Rattle.plan_states.specs.Schedules.{done_by, end_at, used_by, AreInSequence}
use Rattle.plan_states.specs.Whole.{is_end_of, is_end_refused, number_with, number_by, uses_next}
use Rattle.plan_states.specs.declared.edges.Label.{Label}
use Rattle.plan_states.specs.declared.graph.Graph.{Graph}
use Rattle.plan_states.specs.declared.step_end.EndOfStep.{EndOfStep}

-- ---- whether a build has a step left

none_by : (o : Option (List PlanStep)) (k : ℕ) → is_some (option_and_then (λ steps. slice_get steps k) o) ≡ false → unwrap_or (option_map length o) 0 ≤ k
none_by None k none = omega arith
none_by (Some steps) k none = elim (slice_get_cases steps k).1 as (λ _. length steps ≤ k) [
  | inl it ↦ absurd (both_ways (is_some (slice_get steps k)) none (ap (λ (o : Option PlanStep). is_some o) it.2))
  | inr it ↦ it.0
]

more_by : (o : Option (List PlanStep)) (k : ℕ) → is_some (option_and_then (λ steps. slice_get steps k) o) ≡ true → k < unwrap_or (option_map length o) 0
more_by None k more = absurd cc
more_by (Some steps) k more = elim (slice_get_cases steps k).1 as (λ _. k < length steps) [
  | inl it ↦ it.1
  | inr it ↦ absurd (both_ways (is_some (slice_get steps k)) (ap (λ (o : Option PlanStep). is_some o) it.1) more)
]

-- if the plan's builds do not give up, the next step after `k` done steps is the step at index `k`, if there is one
step_read : (plan : Plan) (build k : ℕ) → plan.gives_up ≡ false → step_after plan build k ≡ option_and_then (λ steps. slice_get steps k) (slice_get plan.builds build)
step_read plan build k plain = ap (λ (g : Bool). option_and_then (λ steps. step_numbered g steps k) (slice_get plan.builds build)) plain

pub none_left : (plan : Plan) (build k : ℕ) → plan.gives_up ≡ false → is_some (step_after plan build k) ≡ false → step_number plan build ≤ k
none_left plan build k plain none =
    none_by (slice_get plan.builds build) k (sym (ap (λ (o : Option PlanStep). is_some o) (step_read plan build k plain)) ∙ none)

pub more_left : (plan : Plan) (build k : ℕ) → plan.gives_up ≡ false → is_some (step_after plan build k) ≡ true → k < step_number plan build
more_left plan build k plain more =
    more_by (slice_get plan.builds build) k (sym (ap (λ (o : Option PlanStep). is_some o) (step_read plan build k plain)) ∙ more)

-- ---- the number after a turn

-- unless builds give up, the index of a build's next step grows by one with each turn that ends a step of the build,
-- and stays the same otherwise
pub number_plain : (plan : Plan) (ends : List EndOfStep) (build done : ℕ) (label : Label) → plan.gives_up ≡ false
    → number_by plan ends build done label ≡ cond (build == label.build && is_some label.end) (done + 1) done
number_plain plan ends build done label plain = at (build == label.build) label.end
  where
    at : (t : Bool) (end : Option ℕ) → cond t (number_with plan ends done end) done ≡ cond (t && is_some end) (done + 1) done
    at true None = refl
    at true (Some number) = ap (λ (g : Bool). number_after g (is_end_refused (slice_get ends number)) done) plain
    at false end = refl

counted : (t : Bool) (from more rest : ℕ) → more ≡ cond t (from + 1) from + rest → more ≡ from + (cond t 1 0 + rest)
counted true from more rest is = omega (arith, is)
counted false from more rest is = omega (arith, is)

-- unless builds give up, a path raises the index of a build's next step by the number of the build's steps that end on
-- the path
numbers_counted : (plan : Plan) (ends : List EndOfStep) (build from : ℕ) (path : Path Label) → plan.gives_up ≡ false
    → fold (λ (done : ℕ) (edge : Edge Label). number_by plan ends build done edge.label) from path ≡ from + used_by path build
numbers_counted plan ends build from [] plain = omega arith
numbers_counted plan ends build from (edge ∷ path) plain =
    counted (build == edge.label.build && is_some edge.label.end) from
    (fold (λ (done : ℕ) (e : Edge Label). number_by plan ends build done e.label) from (edge ∷ path)) (used_by path build)
    (numbers_counted plan ends build (number_by plan ends build from edge.label) path plain
    ∙ ap (λ (n : ℕ). n + used_by path build) (number_plain plan ends build from edge.label plain))
    ∙ ap (λ (n : ℕ). from + n) (sym (sum_by-cons (λ (e : Edge Label). cond (build == e.label.build && is_some e.label.end) 1 0) edge path))

from_zero : (n m : ℕ) → n ≡ 0 + m → n ≡ m
from_zero n m is = omega (arith, is)

pub steps_counted : (plan : Plan) (graph : Graph) (path : Path Label) (build : ℕ) → plan.gives_up ≡ false → done_by plan graph path build ≡ used_by path build
steps_counted plan graph path build plain =
    from_zero (done_by plan graph path build) (used_by path build) (numbers_counted plan graph.ends.items build 0 path plain)

-- ---- the step that a turn ends

abbrev pub steps_of : ℕ → List EndOfStep → List ℕ
steps_of build ends = map (λ end. end.step) (filter (λ end. end.build == build) ends)

one_end : (s t : Bool) (end : EndOfStep) (step : ℕ) → s ≡ t → end.step ≡ step
    → map (λ (e : EndOfStep). e.step) (cond s (end ∷ []) []) ≡ cond (t && true) (step ∷ []) []
one_end true true end step same is = λ i. is i ∷ []
one_end false false end step same is = refl
one_end true false end step same is = absurd cc
one_end false true end step same is = absurd cc

no_end : (t : Bool) (step : ℕ) → [] ≡ cond (t && false) (step ∷ []) []
no_end true step = refl
no_end false step = refl

same_build : (build own named : ℕ) → named ≡ own → (named == build) ≡ (build == own)
same_build build own named is = elim (cases_eq build own) as (λ _. (named == build) ≡ (build == own)) [
  | inl same ↦ eq-eqb named build (is ∙ sym same) ∙ sym (eq-eqb build own same)
  | inr apart ↦ ne_eqb named build (λ e. apart (sym e ∙ is)) ∙ sym (ne_eqb build own apart)
]

-- a turn of the build `own`, whose next step is `step`, ends that step or none, and no step of another build
pub turn_ends : (plan : Plan) (ends : List EndOfStep) (build own step : ℕ) (end : Option ℕ) → uses_next plan ends own step end ≡ true
    → steps_of build (end_at ends end) ≡ cond (build == own && is_some end) (step ∷ []) []
turn_ends plan ends build own step None uses = no_end (build == own) step
turn_ends plan ends build own step (Some number) uses = at (slice_get ends number) refl uses
  where
    at : (o : Option EndOfStep) → slice_get ends number ≡ o → is_end_of own step o ≡ true
        → steps_of build (end_at ends (Some number)) ≡ cond (build == own && true) (step ∷ []) []
    at None there is = absurd cc
    at (Some end) there is =
        let parts = and_parts (end.build == own) (end.step == step) is in
        ap (λ (o : Option EndOfStep). steps_of build (option_to_list o)) there
        ∙ one_end (end.build == build) (build == own) end step (same_build build own end.build (eqb-true end.build own parts.0)) (eqb-true end.step step parts.1)

-- ---- the ends of a build, in sequence

own_end : (t : Bool) (plan : Plan) (build done : ℕ) (end : EndOfStep) (later : List EndOfStep) → t ≡ true → end.step ≡ done
    → AreInSequence plan build (number_after plan.gives_up (is_some end.refusal) done) later
    → AreInSequence plan build done (cond t (end ∷ []) [] ++ later)
own_end true plan build done end later own is rest = (is, rest)
own_end false plan build done end later own is rest = absurd cc

others_end : (t : Bool) (plan : Plan) (build done : ℕ) (end : EndOfStep) (later : List EndOfStep) → t ≡ false
    → AreInSequence plan build done later → AreInSequence plan build done (cond t (end ∷ []) [] ++ later)
others_end true plan build done end later other rest = absurd cc
others_end false plan build done end later other rest = rest

same_or : (t : Bool) (n m : ℕ) → t ≡ false → cond t n m ≡ m
same_or true n m other = absurd cc
same_or false n m other = refl

own_or : (t : Bool) (n m : ℕ) → t ≡ true → cond t n m ≡ n
own_or true n m own = refl
own_or false n m own = absurd cc

-- If a build's outcomes after a turn are in sequence, they remain so with the build's outcome of the turn, if any, in
-- front. The turn ends the next step of the build that takes it, or none.
pub sequence_join : (plan : Plan) (ends : List EndOfStep) (build own step : ℕ) (end : Option ℕ) (done next : ℕ) (later : List EndOfStep)
    → uses_next plan ends own step end ≡ true → (build ≡ own → step ≡ done)
    → next ≡ cond (build == own) (number_with plan ends done end) done
    → AreInSequence plan build next later
    → AreInSequence plan build done (filter (λ (e : EndOfStep). e.build == build) (end_at ends end) ++ later)
sequence_join plan ends build own step None done next later uses same is rest =
    subst (λ (n : ℕ). AreInSequence plan build n later)
    (is ∙ elim (build == own) as (λ t. cond t done done ≡ done) [ true ↦ refl | false ↦ refl ]) rest
sequence_join plan ends build own step (Some number) done next later uses same is rest = at (slice_get ends number) refl uses
  where
    at : (o : Option EndOfStep) → slice_get ends number ≡ o → is_end_of own step o ≡ true
        → AreInSequence plan build done (filter (λ (e : EndOfStep). e.build == build) (end_at ends (Some number)) ++ later)
    at None there it = absurd cc
    at (Some end) there it =
        let parts = and_parts (end.build == own) (end.step == step) it in
        subst (λ (o : Option EndOfStep). AreInSequence plan build done (filter (λ (e : EndOfStep). e.build == build) (option_to_list o) ++ later)) (sym there)
        (elim (cases_eq build own) as (λ _. AreInSequence plan build done (cond (end.build == build) (end ∷ []) [] ++ later)) [
          | inl is_own ↦ own_end (end.build == build) plan build done end later
              (eq-eqb end.build build (eqb-true end.build own parts.0 ∙ sym is_own))
              (eqb-true end.step step parts.1 ∙ same is_own)
              (subst (λ (n : ℕ). AreInSequence plan build n later)
              (is ∙ own_or (build == own) (number_with plan ends done (Some number)) done (eq-eqb build own is_own)
              ∙ ap (λ (o : Option EndOfStep). number_after plan.gives_up (is_end_refused o) done) there) rest)
          | inr apart ↦ others_end (end.build == build) plan build done end later
              (ne_eqb end.build build (λ e. apart (sym e ∙ eqb-true end.build own parts.0)))
              (subst (λ (n : ℕ). AreInSequence plan build n later)
              (is ∙ same_or (build == own) (number_with plan ends done (Some number)) done (ne_eqb build own apart)) rest)
        ])

-- ---- ranges

pub range_next : (k n : ℕ) → k < n → range_with_len k (n - k) ≡ k ∷ range_with_len (k + 1) (n - (k + 1))
range_next k n less = let one : n - k ≡ suc (n - (k + 1)) = omega arith in ap (range_with_len k) one

-- the step that a turn ends, if any, followed by the steps left after the turn, are the steps left before the turn
pub steps_join : (t : Bool) (k own then n : ℕ) → then ≡ cond t (k + 1) k → (t ≡ true → own ≡ k) → (t ≡ true → k < n)
    → cond t (own ∷ []) [] ++ range_with_len then (n - then) ≡ range_with_len k (n - k)
steps_join true k own then n is same more =
    (λ i. same refl i ∷ range_with_len (is i) (n - is i)) ∙ sym (range_next k n (more refl))
steps_join false k own then n is same more = λ i. range_with_len (is i) (n - is i)
