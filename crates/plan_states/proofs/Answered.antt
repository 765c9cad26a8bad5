-- Proofs that the test `is_answer` decides whether the answer to a `TurnQuestion` is yes for the last turn of a
-- schedule.
use Rattle.std.proofs.Common.{◌≡◌, ◌≢◌, ℕ, zero, suc, ◌+◌, ◌<◌, ◌==◌, ◌&&◌, ◌||◌, Bool, true, false, not, List, [], ◌∷◌, ◌++◌, map, length, Option, Some, None, inr, refl, sym, subst, ap, ◌∙◌, eq-eqb, ne_eqb, le-leb, zero-add, arith}
use Rattle.std.specs.Prelude.{◌≤◌, is_some, if◌then◌else◌, slice_get, sum}
use Rattle.std.specs.List.{list_any, range_with_len}
use Rattle.std.proofs.lemmas.Bool.{eqb-true, leb-true}
use Rattle.host_commands.specs.declared.refusal.Refusal.{Refusal}
use Rattle.host_ledger.specs.View.{HostView, pages_of_build}
use Rattle.realm_plan.specs.Plan.{Plan}
use Rattle.plan_replay.specs.Run.{Position}
use Rattle.plan_states.specs.Questions.{pages_of_builds, has_other_without_pages, is_answer, is_other_without_pages, is_of_shared, is_other_with, waits}
use Rattle.plan_states.specs.Reached.{IsReached}
use Rattle.plan_states.specs.Shortest.{EndsWithAnswer, EndsWithoutAnswer, IsRefusal, IsWait, Shows}
use Rattle.plan_states.specs.LabelProperties.{refuses_step}
use Rattle.plan_states.specs.Turned.{end_taken}
use Rattle.plan_states.specs.TurnTaken.{IsTurnTaken}
use Rattle.plan_states.specs.declared.question.TurnQuestion.{TurnQuestion}
use Rattle.plan_states.specs.declared.question.TurnQuestion.TheVariants.{Refused, Waiting, Leased}
use Rattle.plan_states.specs.declared.running.TurnTaken.{TurnTaken}
use Rattle.plan_states.specs.declared.step_end.EndOfStep.{EndOfStep}

both : (a b : Bool) → (a && b) ≡ true → (a ≡ true) × (b ≡ true)
both true true is = (refl, refl)
both true false is = absurd cc
both false b is = absurd cc

some_of : (refusal : Option Refusal) → is_some refusal ≡ true → (r : Refusal) × (refusal ≡ Some r)
some_of (Some r) is = (r, refl)
some_of None is = absurd cc

-- ---- refusals

abbrev end_with : ℕ → ℕ → Option Refusal → EndOfStep
end_with build step refusal = record { build = build; step = step; refusal = refusal }

refusal_by : (last before build step : ℕ) (refusal : Option Refusal) → ((is_some refusal && last == build) && before == step) ≡ true
    → IsRefusal build step (Some (end_with last before refusal))
refusal_by last before build step refusal is =
    let parts : ((is_some refusal && last == build) ≡ true) × ((before == step) ≡ true) = both (is_some refusal && last == build) (before == step) is in
    let front : (is_some refusal ≡ true) × ((last == build) ≡ true) = both (is_some refusal) (last == build) parts.0 in
    let some : (r : Refusal) × (refusal ≡ Some r) = some_of refusal front.0 in record {
      refusal = some.0;
      is_end = λ i. Some (end_with (eqb-true last build front.1 i) (eqb-true before step parts.1 i) (some.1 i));
    }

is_refusal : (build step : ℕ) (end : Option EndOfStep) → refuses_step build step end ≡ true → IsRefusal build step end
is_refusal build step None is = absurd cc
is_refusal build step (Some end) is = refusal_by end.build end.step build step end.refusal is

-- ---- waits

-- The outcome is a refusal of a step of the build for lack of a block or a VMID.
record IsShort (build : ℕ) (end : Option EndOfStep) : Type 0 where
  pub step : ℕ
  pub refused : IsRefusal build step end
  pub shared : is_of_shared (Some refused.refusal) ≡ true

short_by : (last step build : ℕ) (refusal : Option Refusal) → last ≡ build → is_of_shared refusal ≡ true → IsShort build (Some (end_with last step refusal))
short_by last step build None same is = absurd cc
short_by last step build (Some refusal) same is = record {
  step = step;
  refused = record { refusal = refusal; is_end = ap (λ b. Some (end_with b step (Some refusal))) same };
  shared = is;
}

is_short : (build : ℕ) (end : Option EndOfStep) → waits build end ≡ true → IsShort build end
is_short build None is = absurd cc
is_short build (Some end) is =
    let parts : ((end.build == build) ≡ true) × (is_of_shared end.refusal ≡ true) = both (end.build == build) (is_of_shared end.refusal) is in
    short_by end.build end.step build end.refusal (eqb-true end.build build parts.0) parts.1

-- Some number below `from + count` passes the test.
record IsPassed (test : ℕ → Bool) (from count : ℕ) : Type 0 where
  pub one : ℕ
  pub below : one < from + count
  pub passes : test one ≡ true

passed : (test : ℕ → Bool) (from count : ℕ) → list_any test (range_with_len from count) ≡ true → IsPassed test from count
passed test from zero is = absurd cc
passed test from (suc count) is = elim (test from) as (λ t. test from ≡ t → IsPassed test from (suc count)) [
  | true ↦ λ yes. record { one = from; below = omega arith; passes = yes }
  | false ↦ λ no.
      let it = passed test (from + 1) count (sym (ap (λ t. t || list_any test (range_with_len (from + 1) count)) no) ∙ is) in
      record { one = it.one; below = (let h = it.below in omega arith); passes = it.passes }
] refl

differs : (one other : ℕ) → not (one == other) ≡ true → one ≢ other
differs one other is same = absurd (cc (eq-eqb one other same))

-- if `test` fails for None, and passes for the lookup of index `place` in a range mapped by `f`, it passes for `f at`,
-- with `at` equal to `from + place`
found : (test : Option ℕ → Bool) (f : ℕ → ℕ) → test None ≡ false → (from count place at : ℕ) → at ≡ from + place
    → test (slice_get (map f (range_with_len from count)) place) ≡ true → test (Some (f at)) ≡ true
found test f none from zero place at same is = absurd cc
found test f none from (suc count) zero at same is =
    let here : at ≡ from = omega arith in ap (λ n. test (Some (f n))) here ∙ is
found test f none from (suc count) (suc place) at same is =
    let there : at ≡ from + 1 + place = omega arith in found test f none (from + 1) count place at there is

empty : {X : Type 0} (xs : List X) → length xs ≡ 0 → xs ≡ []
empty [] is = refl
empty (x ∷ xs) is = absurd (omega arith)

is_wait : (plan : Plan) (build : ℕ) (end : Option EndOfStep) (host : HostView)
    → waits build end ≡ true → has_other_without_pages (length plan.builds) build (pages_of_builds host) ≡ true → IsWait plan build end host
is_wait plan build end host waiting rests =
    let short = is_short build end waiting in
    let other = passed (is_other_without_pages build (pages_of_builds host)) 0 (length plan.builds) rests in
    let rest : ((not (other.one == build)) && (length (pages_of_build host other.one) == 0)) ≡ true =
    found (is_other_with build other.one) (λ b. length (pages_of_build host b)) refl 0 8 other.one other.one (sym (zero-add other.one)) other.passes in
    let parts = both (not (other.one == build)) (length (pages_of_build host other.one) == 0) rest in record {
      step = short.step;
      refused = short.refused;
      shared = short.shared;
      other = other.one;
      of_plan = (let h = other.below in omega arith);
      differs = differs other.one build parts.0;
      at_rest = empty (pages_of_build host other.one) (eqb-true (length (pages_of_build host other.one)) 0 parts.1);
    }

-- ---- all questions

shows_by : (plan : Plan) (question : TurnQuestion) (end : Option EndOfStep) (host : HostView)
    → is_answer (length plan.builds) question end (pages_of_builds host) ≡ true → Shows plan question end host
shows_by plan (Refused build step) end host is = is_refusal build step end is
shows_by plan (Waiting build) end host is =
    let parts = both (waits build end) (has_other_without_pages (length plan.builds) build (pages_of_builds host)) is in is_wait plan build end host parts.0 parts.1
shows_by plan (Leased granules) end host is = leb-true granules (sum (pages_of_builds host)) is

-- the answer to a question is yes for the last turn of a schedule if `is_answer` is true of that turn
pub answered_by : (plan : Plan) (question : TurnQuestion) (schedule front : List ℕ) (last : ℕ) (at to : Position) (it : TurnTaken)
    → schedule ≡ front ++ last ∷ [] → IsReached plan front at → IsTurnTaken plan at last it to
    → is_answer (length plan.builds) question (end_taken last it) (pages_of_builds to.host) ≡ true → EndsWithAnswer plan question schedule
answered_by plan question schedule front last at to it is_schedule reached is answers = record {
  before = front;
  last = last;
  is_schedule = is_schedule;
  at = at;
  reached = reached;
  taken = record { turn = record { build = last; told = is.told }; before = it.before; after = it.after };
  to = to;
  is_taken = is.is_taken;
  shown = subst (λ refusal. Shows plan question (if it.before == it.after then None else Some (end_with last it.before refusal)) to.host) is.refusal
      (shows_by plan question (end_taken last it) to.host answers);
}

-- ---- turns that do not answer

refuses_if : (build step : ℕ) (end : Option EndOfStep) → IsRefusal build step end → refuses_step build step end ≡ true
refuses_if build step end it = ap (refuses_step build step) it.is_end ∙ (λ i. (true && eq-eqb build build refl i) && eq-eqb step step refl i)

waits_if : (build step : ℕ) (end : Option EndOfStep) (it : IsRefusal build step end) → is_of_shared (Some it.refusal) ≡ true → waits build end ≡ true
waits_if build step end it shared = ap (waits build) it.is_end ∙ (λ i. eq-eqb build build refl i && shared i)

or_true : (b : Bool) → (b || true) ≡ true
or_true true = refl
or_true false = refl

-- some number of a range passes a test if the number `at` of the range does
passes_if : (test : ℕ → Bool) (from count place at : ℕ) → at ≡ from + place → place < count → test at ≡ true → list_any test (range_with_len from count) ≡ true
passes_if test from zero place at same inside is = absurd (omega arith)
passes_if test from (suc count) zero at same inside is =
    let here : at ≡ from = omega arith in ap (λ t. t || list_any test (range_with_len (from + 1) count)) (sym (ap test here) ∙ is)
passes_if test from (suc count) (suc place) at same inside is =
    let there : at ≡ from + 1 + place = omega arith in
    let below : place < count = omega arith in
    ap (λ t. test from || t) (passes_if test (from + 1) count place at there below is) ∙ or_true (test from)

-- in a range mapped by `f`, the element at index `place` is `f at`, if the range has the number `at` there
value_at : (f : ℕ → ℕ) (from count place at : ℕ) → at ≡ from + place → place < count → slice_get (map f (range_with_len from count)) place ≡ Some (f at)
value_at f from zero place at same inside = absurd (omega arith)
value_at f from (suc count) zero at same inside = let here : at ≡ from = omega arith in ap (λ n. Some (f n)) (sym here)
value_at f from (suc count) (suc place) at same inside =
    let there : at ≡ from + 1 + place = omega arith in
    let below : place < count = omega arith in value_at f (from + 1) count place at there below

rests_if : (host : HostView) (builds build other : ℕ) → builds ≤ 8 → other < builds → other ≢ build → pages_of_build host other ≡ []
    → has_other_without_pages builds build (pages_of_builds host) ≡ true
rests_if host builds build other few inside unlike rest =
    let eight : other < 8 = omega arith in
    passes_if (is_other_without_pages build (pages_of_builds host)) 0 builds other other (sym (zero-add other)) inside
    (ap (is_other_with build other) (value_at (λ b. length (pages_of_build host b)) 0 8 other other (sym (zero-add other)) eight)
    ∙ (λ i. not (ne_eqb other build unlike i) && length (rest i) == 0))

answers_if : (plan : Plan) (question : TurnQuestion) (end : Option EndOfStep) (host : HostView) → length plan.builds ≤ 8
    → Shows plan question end host → is_answer (length plan.builds) question end (pages_of_builds host) ≡ true
answers_if plan (Refused build step) end host few shown = refuses_if build step end shown
answers_if plan (Waiting build) end host few shown =
    let waiting = waits_if build shown.step end shown.refused shown.shared in
    let rests = rests_if host (length plan.builds) build shown.other few shown.of_plan shown.differs shown.at_rest in (λ i. waiting i && rests i)
answers_if plan (Leased granules) end host few shown = le-leb granules (sum (pages_of_builds host)) shown

-- the answer to a question is not yes for the last turn of a schedule if `is_answer` is false of that turn, and the
-- plan has at most eight builds
pub unanswered_by : (plan : Plan) (question : TurnQuestion) (schedule front : List ℕ) (last : ℕ) (at to : Position) (it : TurnTaken)
    → schedule ≡ front ++ last ∷ [] → IsReached plan front at → IsTurnTaken plan at last it to → length plan.builds ≤ 8
    → is_answer (length plan.builds) question (end_taken last it) (pages_of_builds to.host) ≡ false → EndsWithoutAnswer plan question schedule
unanswered_by plan question schedule front last at to it is_schedule reached is few fails = record {
  before = front;
  last = last;
  is_schedule = is_schedule;
  at = at;
  reached = reached;
  none = inr (record {
    taken = record { turn = record { build = last; told = is.told }; before = it.before; after = it.after };
    to = to;
    is_taken = is.is_taken;
    not_shown = λ shown. absurd (cc (answers_if plan question (end_taken last it) to.host few
        (subst (λ refusal. Shows plan question (if it.before == it.after then None else Some (end_with last it.before refusal)) to.host) (sym is.refusal) shown)));
  });
}
