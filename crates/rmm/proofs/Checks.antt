-- Proofs that, among concatenated lists of checks, the first list with a failed check decides the refusal.
use Rattle.std.proofs.Common.{◌≡◌, Bool, true, false, cond, List, [], ◌∷◌, ◌++◌, Option, Some, None, refl, ◌∙◌}
use Rattle.rmm_model.specs.declared.answer.FailedCondition.{FailedCondition}
use Rattle.rmm_model.specs.Check.{Check, first_failing}

passed_by : (fails : Bool) (refusal : FailedCondition) (front rest all : Option FailedCondition) → None ≡ cond fails (Some refusal) front → (None ≡ front → rest ≡ all) → rest ≡ cond fails (Some refusal) all
passed_by true refusal front rest all passes more = cc
passed_by false refusal front rest all passes more = more passes

failed_by : (fails : Bool) (refusal found : FailedCondition) (front all : Option FailedCondition) → Some found ≡ cond fails (Some refusal) front → (Some found ≡ front → Some found ≡ all) → Some found ≡ cond fails (Some refusal) all
failed_by true refusal found front all fails more = fails
failed_by false refusal found front all fails more = more fails

-- if the first of two lists of checks passes, the second decides the refusal
pub passed : (xs ys : List Check) → None ≡ first_failing xs → first_failing ys ≡ first_failing (xs ++ ys)
passed [] ys passes = refl
passed (x ∷ xs) ys passes = passed_by x.fails x.refusal (first_failing xs) (first_failing ys) (first_failing (xs ++ ys)) passes (λ h. passed xs ys h)

-- if the first of two lists of checks has a failed check, that list decides the refusal
pub failed : (xs ys : List Check) (refusal : FailedCondition) → Some refusal ≡ first_failing xs → Some refusal ≡ first_failing (xs ++ ys)
failed [] ys refusal fails = cc
failed (x ∷ xs) ys refusal fails = failed_by x.fails x.refusal refusal (first_failing xs) (first_failing (xs ++ ys)) fails (λ h. failed xs ys refusal h)

module _ (a b c d : List Check) where
  -- if the first of four lists of checks has a failed check, that list decides the refusal
  pub first_fails : (r : FailedCondition) → Some r ≡ first_failing a → Some r ≡ first_failing (a ++ b ++ c ++ d)
  first_fails r fails = failed (a ++ b ++ c) d r (failed (a ++ b) c r (failed a b r fails))

  pub second_fails : (r : FailedCondition) → None ≡ first_failing a → Some r ≡ first_failing b → Some r ≡ first_failing (a ++ b ++ c ++ d)
  second_fails r one fails = failed (a ++ b ++ c) d r (failed (a ++ b) c r (fails ∙ passed a b one))

  pub third_fails : (r : FailedCondition) → None ≡ first_failing a → None ≡ first_failing b → Some r ≡ first_failing c → Some r ≡ first_failing (a ++ b ++ c ++ d)
  third_fails r one two fails = failed (a ++ b ++ c) d r (fails ∙ passed (a ++ b) c (two ∙ passed a b one))

  pub fourth_decides : None ≡ first_failing a → None ≡ first_failing b → None ≡ first_failing c → first_failing d ≡ first_failing (a ++ b ++ c ++ d)
  fourth_decides one two three = passed (a ++ b ++ c) d (three ∙ passed (a ++ b) c (two ∙ passed a b one))
