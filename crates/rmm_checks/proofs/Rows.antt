-- Proofs that evaluating two lists of checks in sequence is the same as evaluating their concatenation, and that a
-- check's test or answer can be replaced by an equal one.
use Rattle.std.proofs.Common.{◌≡◌, Bool, true, false, not, List, [], ◌∷◌, ◌++◌, Option, Some, None, is_none, is_some, refl, ap, subst, ◌∙◌}
use Rattle.rmi_abi.specs.declared.registers.SmcResult.{SmcResult}
use Rattle.rmm_model.specs.declared.condition.Condition.{Condition}
use Rattle.rmm_checks.specs.declared.evaluated.EvaluatedCheck.{EvaluatedCheck}
use Rattle.rmm_model.specs.Check.{Check, check}
use Rattle.rmm_checks.specs.Evaluated.{Adds, row_after, evaluated_after}

pub then : (rows : List EvaluatedCheck) (xs ys : List Check) → evaluated_after (evaluated_after rows xs) ys ≡ evaluated_after rows (xs ++ ys)
unfolding evaluated_after
then rows [] ys = refl
then rows (x ∷ xs) ys = then (rows ++ row_after rows x ∷ []) xs ys

-- if two lists of checks are evaluated one after another, the result is the evaluation of their concatenation
pub on : {r s t : List EvaluatedCheck} {xs ys : List Check} → Adds r xs s → Adds s ys t → Adds r (xs ++ ys) t
on {r} {s} {t} {xs} {ys} first second = record { rows = second.rows ∙ ap (λ (now : List EvaluatedCheck). evaluated_after now ys) first.rows ∙ then r xs ys }

-- exchanging a check's test for an equal test does not change the evaluation of the check
pub told : {r s : List EvaluatedCheck} {condition : Condition} {after : List Condition} {test fails : Bool} {answer : SmcResult} → test ≡ fails
    → Adds r (check condition after test answer ∷ []) s → Adds r (check condition after fails answer ∷ []) s
told {r} {s} {condition} {after} {test} {fails} {answer} same added = subst (λ (b : Bool). Adds r (check condition after b answer ∷ []) s) same added

-- exchanging a check's answer for an equal answer does not change the evaluation of the check
pub told_answer : {r s : List EvaluatedCheck} {condition : Condition} {after : List Condition} {fails : Bool} {given answer : SmcResult} → given ≡ answer
    → Adds r (check condition after fails given ∷ []) s → Adds r (check condition after fails answer ∷ []) s
told_answer {r} {s} {condition} {after} {fails} {given} {answer} same added = subst (λ (a : SmcResult). Adds r (check condition after fails a ∷ []) s) same added

-- adding checks to an empty list gives the evaluation of these checks alone
pub from_none : {r s : List EvaluatedCheck} {xs : List Check} → r ≡ [] → Adds r xs s → s ≡ evaluated_after [] xs
from_none {r} {s} {xs} none added = added.rows ∙ ap (λ (now : List EvaluatedCheck). evaluated_after now xs) none

-- if an option has a value exactly when `b` is false, `b` is `is_none` of the option
pub none_told : {X : Type 0} (o : Option X) (b : Bool) → is_some o ≡ not b → b ≡ is_none o
none_told None true h = refl
none_told None false h = cc
none_told (Some x) true h = cc
none_told (Some x) false h = refl
