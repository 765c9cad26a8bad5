-- Proofs that a check is evaluated as defined even if its test and its answer agree with the definition only when the
-- check is made.
use Rattle.std.specs.Prelude.{if◌then◌else◌}
use Rattle.std.proofs.Common.{◌≡◌, ℕ, ◌==◌, ◌&&◌, ◌||◌, Bool, true, false, not, List, [], ◌∷◌, ◌++◌, ⊎_elim, refl, ap, sym, ◌∙◌}
use Rattle.std.specs.List.{list_all}
use Rattle.std.proofs.lemmas.Bool.{and_parts, and_from, not-true, or_cases}
use Rattle.rmi_abi.specs.declared.registers.SmcResult.{SmcResult}
use Rattle.rmm_model.specs.declared.condition.Condition.{Condition}
use Rattle.rmm_checks.specs.declared.evaluated.CheckOutcome.{CheckOutcome}
use Rattle.rmm_checks.specs.declared.evaluated.CheckOutcome.TheVariants.{NotMade, Passed, Failed}
use Rattle.rmm_checks.specs.declared.evaluated.EvaluatedCheck.{EvaluatedCheck}
use Rattle.rmm_model.specs.Allowed.{condition_number}
use Rattle.rmm_model.specs.Check.{Check, check}
use Rattle.rmm_checks.specs.Evaluated.{is_pass, is_passed, is_made, row_after, evaluated_after, Adds}
use Rattle.rmm_checks.proofs.Sure.{or_false, passed-on, pass_parts, sure, made-sure, absent}

-- ---- rows

same_outcome : (made test fails : Bool) (given answer : SmcResult) → (made ≡ true → (test ≡ fails) × (given ≡ answer))
    → (if made then (if test then Failed given else Passed) else NotMade) ≡ (if made then (if fails then Failed answer else Passed) else NotMade)
same_outcome true test fails given answer same =
    let both = same refl in
    ap (λ (b : Bool). if b then Failed given else Passed) both.0 ∙ ap (λ (a : SmcResult). if fails then Failed a else Passed) both.1
same_outcome false test fails given answer same = refl

abbrev row : Condition → CheckOutcome → EvaluatedCheck
row condition outcome = record { condition = condition; outcome = outcome }

-- a check is evaluated as defined if its test and its answer are those of the definition whenever the check is made
pub told_where : {r s : List EvaluatedCheck} {condition : Condition} {after : List Condition} {test fails : Bool} {given answer : SmcResult}
    → (is_made r after ≡ true → (test ≡ fails) × (given ≡ answer))
    → Adds r (check condition after test given ∷ []) s → Adds r (check condition after fails answer ∷ []) s
unfolding evaluated_after
told_where {r} {s} {condition} {after} {test} {fails} {given} {answer} same added = record {
  rows = added.rows ∙ ap (λ (outcome : CheckOutcome). r ++ row condition outcome ∷ []) (same_outcome (is_made r after) test fails given answer same);
}

-- ---- a check that was made and passed

one_made : (s : List EvaluatedCheck) (x : Condition) → is_made s (x ∷ []) ≡ true → is_passed s x ≡ true
unfolding is_made
one_made s x made = (and_parts (is_passed s x) true made).0

-- if a condition is not passed before its check is added, but is passed afterwards, that check was made, and its test
-- is false
pub passed_here : {r s : List EvaluatedCheck} {x : Condition} {after : List Condition} {test : Bool} {answer : SmcResult}
    → is_passed r x ≡ false → Adds r (check x after test answer ∷ []) s → is_made s (x ∷ []) ≡ true → (is_made r after ≡ true) × (test ≡ false)
unfolding evaluated_after
passed_here {r} {s} {x} {after} {test} {answer} none added made =
    let c : Check = check x after test answer in
    let here : Bool = condition_number x == condition_number x && is_pass (row_after r c).outcome in
    let passed : (is_passed r x || here) ≡ true =
    sym (passed-on r (row_after r c) x) ∙ ap (λ (now : List EvaluatedCheck). is_passed now x) (sym added.rows) ∙ one_made s x made in
    ⊎_elim
    (λ (old : is_passed r x ≡ true). (cc, cc))
    (λ (new : here ≡ true). pass_parts (is_made r after) test answer (and_parts (condition_number x == condition_number x) (is_pass (row_after r c).outcome) new).1)
    (or_cases (is_passed r x) here passed)

-- a condition that is not passed is still not passed after a check of another condition
pub absent_on : {r s : List EvaluatedCheck} {y : Condition} {after : List Condition} {test : Bool} {answer : SmcResult} (x : Condition)
    → is_passed r x ≡ false → (condition_number y == condition_number x) ≡ false → Adds r (check y after test answer ∷ []) s → is_passed s x ≡ false
unfolding evaluated_after
absent_on {r} {s} {y} {after} {test} {answer} x none other added =
    let c : Check = check y after test answer in
    ap (λ (now : List EvaluatedCheck). is_passed now x) added.rows
    ∙ passed-on r (row_after r c) x
    ∙ ap (λ (b : Bool). b || (condition_number y == condition_number x && is_pass (row_after r c).outcome)) none
    ∙ ap (λ (b : Bool). b && is_pass (row_after r c).outcome) other

-- if a condition is passed after a check of another condition is added, the condition was already passed before
pub made_before : {r s : List EvaluatedCheck} {y : Condition} {after : List Condition} {test : Bool} {answer : SmcResult} (x : Condition)
    → (condition_number y == condition_number x) ≡ false → Adds r (check y after test answer ∷ []) s → is_made s (x ∷ []) ≡ true → is_made r (x ∷ []) ≡ true
unfolding evaluated_after is_made
made_before {r} {s} {y} {after} {test} {answer} x other added made =
    let c : Check = check y after test answer in
    let old : is_passed r x ≡ true =
    sym (or_false (is_passed r x))
    ∙ ap (λ (b : Bool). is_passed r x || (b && is_pass (row_after r c).outcome)) (sym other)
    ∙ sym (passed-on r (row_after r c) x)
    ∙ ap (λ (now : List EvaluatedCheck). is_passed now x) (sym added.rows)
    ∙ one_made s x made in
    and_from (is_passed r x) true old refl

-- ---- after a whole list of checks

pub absent_in : {r : List EvaluatedCheck} (cs : List Check) (x : Condition) → r ≡ evaluated_after [] cs → sure 1 cs x ≡ false → is_passed r x ≡ false
absent_in {r} cs x rows none = ap (λ (now : List EvaluatedCheck). is_passed now x) rows ∙ absent cs x none

pub made_in : {r : List EvaluatedCheck} (cs : List Check) (after : List Condition) (n : ℕ) → r ≡ evaluated_after [] cs → is_made r after ≡ true → list_all (sure n cs) after ≡ true
made_in {r} cs after n rows made = made-sure cs after n (ap (λ (now : List EvaluatedCheck). is_made now after) (sym rows) ∙ made)

-- if `sure` holds of a condition with a single check, the check does not fail, and `sure` holds of the conditions on
-- which it depends
pub sure_parts : (fails rest : Bool) → ((not fails && rest) || false) ≡ true → (fails ≡ false) × (rest ≡ true)
sure_parts true rest h = (cc, cc)
sure_parts false true h = (refl, refl)
sure_parts false false h = (cc, cc)

-- no check of a list has this condition
abbrev pub are_others : Condition → List Check → Bool
are_others x [] = true
are_others x (c ∷ cs) = not (condition_number c.refusal.condition == condition_number x) && are_others x cs

before_list : (x : Condition) (cs : List Check) (r : List EvaluatedCheck) → are_others x cs ≡ true → is_passed (evaluated_after r cs) x ≡ true → is_passed r x ≡ true
unfolding evaluated_after
before_list x [] r others passed = passed
before_list x (c ∷ cs) r others passed =
    let parts = and_parts (not (condition_number c.refusal.condition == condition_number x)) (are_others x cs) others in
    let later = before_list x cs (r ++ row_after r c ∷ []) parts.1 passed in
    let other = not-true (condition_number c.refusal.condition == condition_number x) parts.0 in
    sym (or_false (is_passed r x))
    ∙ ap (λ (b : Bool). is_passed r x || (b && is_pass (row_after r c).outcome)) (sym other)
    ∙ sym (passed-on r (row_after r c) x)
    ∙ later

-- if a condition is passed after checks of other conditions are added, the condition was already passed before
pub made_before_all : {r s : List EvaluatedCheck} {cs : List Check} (x : Condition) → Adds r cs s → are_others x cs ≡ true → is_made s (x ∷ []) ≡ true → is_made r (x ∷ []) ≡ true
unfolding is_made
made_before_all {r} {s} {cs} x added others made =
    and_from (is_passed r x) true (before_list x cs r others (ap (λ (now : List EvaluatedCheck). is_passed now x) (sym added.rows) ∙ one_made s x made)) refl

-- if a check that depends on several conditions is made, the first of these is passed
pub first_made : (s : List EvaluatedCheck) (x : Condition) (rest : List Condition) → is_made s (x ∷ rest) ≡ true → is_made s (x ∷ []) ≡ true
unfolding is_made
first_made s x rest made = and_from (is_passed s x) true (and_parts (is_passed s x) (list_all (is_passed s) rest) made).0 refl
