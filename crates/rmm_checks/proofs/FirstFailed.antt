-- Lemmas on the search for the first failed check in a list: the search ends at a failed check, and goes on after a
-- check that did not fail.
use Rattle.std.proofs.Common.{◌≡◌, ℕ, ◌+◌, ◌<◌, ◌≤◌, List, None, Some, Option, length, get_or, drop, refl, sym, ap, add-one, drop-cons}
use Rattle.std.proofs.lemmas.List.{drop_all}
use Rattle.rmm_model.specs.declared.answer.FailedCondition.{FailedCondition}
use Rattle.rmm_checks.specs.declared.evaluated.CheckOutcome.{CheckOutcome}
use Rattle.rmm_checks.specs.declared.evaluated.CheckOutcome.TheVariants.{NotMade, Passed, Failed}
use Rattle.rmm_checks.specs.declared.evaluated.EvaluatedCheck.{EvaluatedCheck}
use Rattle.rmm_checks.specs.Evaluated.{refusal_or, first_failed}

pub failed_at : (rows : List EvaluatedCheck) (i : ℕ) (d : EvaluatedCheck) → i < length rows
    → first_failed (drop i rows) ≡ refusal_or (get_or rows i d) (get_or rows i d).outcome (first_failed (drop (i + 1) rows))
unfolding first_failed
failed_at rows i d lt =
    let split = drop-cons rows i d lt in
    rw (add-one) (ap first_failed split)

pub failed_end : (rows : List EvaluatedCheck) (i : ℕ) → length rows ≤ i → first_failed (drop i rows) ≡ None
unfolding first_failed
failed_end rows i past = ap first_failed (drop_all i rows past)

-- if a check did not fail, the first refusal is that of the checks after it
pub none_here : (r : EvaluatedCheck) (outcome : CheckOutcome) (rest : Option FailedCondition) → None ≡ refusal_or r outcome None → refusal_or r outcome rest ≡ rest
none_here r NotMade rest h = refl
none_here r Passed rest h = refl
none_here r (Failed answer) rest h = cc

-- if a check failed, the first refusal is its own, whatever the checks after it give
pub some_here : (r : EvaluatedCheck) (outcome : CheckOutcome) (rest : Option FailedCondition) (found : FailedCondition) → Some found ≡ refusal_or r outcome None → refusal_or r outcome rest ≡ Some found
some_here r NotMade rest found h = cc
some_here r Passed rest found h = cc
some_here r (Failed answer) rest found h = sym h
