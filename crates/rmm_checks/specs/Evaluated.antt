-- The checks of an RMI call, each with its outcome: not made, passed or failed. A check is made if each check that it
-- comes after was made and passed.
use Rattle.std.specs.Prelude.{◌≡◌, ◌==◌, ◌&&◌, Bool, true, false, List, [], ◌∷◌, ◌++◌, Option, Some, None, if◌then◌else◌}
use Rattle.std.specs.List.{list_all, list_any}
use Rattle.rmi_abi.specs.declared.word.Word.{Word}
use Rattle.rmi_abi.specs.Word.{number}
use Rattle.rmm_model.specs.declared.answer.FailedCondition.{FailedCondition}
use Rattle.rmm_model.specs.declared.condition.Condition.{Condition}
use Rattle.rmm_checks.specs.declared.evaluated.CheckOutcome.{CheckOutcome}
use Rattle.rmm_checks.specs.declared.evaluated.CheckOutcome.TheVariants.{NotMade, Passed, Failed}
use Rattle.rmm_checks.specs.declared.evaluated.EvaluatedCheck.{EvaluatedCheck}
use Rattle.rmm_model.specs.Allowed.{condition_number, or_success}
use Rattle.rmm_model.specs.Check.{Check}

-- ---- outcomes

-- the check with this outcome was made and passed
abbrev pub is_pass : CheckOutcome → Bool
is_pass Passed = true
is_pass _ = false

-- a check of this condition was made and passed
unfoldable pub is_passed : List EvaluatedCheck → Condition → Bool
is_passed rows condition = list_any (λ row. condition_number row.condition == condition_number condition && is_pass row.outcome) rows

-- for each of the given conditions, a check was made and passed
unfoldable pub is_made : List EvaluatedCheck → List Condition → Bool
is_made rows after = list_all (is_passed rows) after

abbrev pub outcome_of : Bool → Check → CheckOutcome
outcome_of made c = if made then (if c.fails then Failed c.refusal.answer else Passed) else NotMade

-- a check with its outcome, given the checks that are evaluated already
abbrev pub row_after : List EvaluatedCheck → Check → EvaluatedCheck
row_after rows c = record { condition = c.refusal.condition; outcome = outcome_of (is_made rows c.after) c }

-- evaluated checks, followed by further checks with their outcomes
unfoldable pub evaluated_after : List EvaluatedCheck → List Check → List EvaluatedCheck
evaluated_after rows [] = rows
evaluated_after rows (c ∷ cs) = evaluated_after (rows ++ row_after rows c ∷ []) cs

-- The checks of a list with their outcomes, in the sequence of the list.
abbrev pub evaluated : List Check → List EvaluatedCheck
evaluated checks = evaluated_after [] checks

-- `after` has the checks of `before`, followed by the checks in `checks` with their outcomes
pub record Adds (before : List EvaluatedCheck) (checks : List Check) (after : List EvaluatedCheck) : Type 0 where
  pub rows : after ≡ evaluated_after before checks

-- ---- refusals

-- the refusal by a check if its outcome is a failure, and otherwise the given later refusal, if any
abbrev pub refusal_or : EvaluatedCheck → CheckOutcome → Option FailedCondition → Option FailedCondition
refusal_or row (Failed answer) rest = Some (record { condition = row.condition; answer = answer })
refusal_or row _ rest = rest

-- the refusal by the first check that was made and failed, if any
unfoldable pub first_failed : List EvaluatedCheck → Option FailedCondition
first_failed [] = None
first_failed (row ∷ rows) = refusal_or row row.outcome (first_failed rows)

abbrev pub word_and : CheckOutcome → List Word → List Word
word_and (Failed answer) words = answer.word ∷ words
word_and _ words = words

-- the result words of the checks that were made and failed
unfoldable pub failed_words : List EvaluatedCheck → List Word
failed_words [] = []
failed_words (row ∷ rows) = word_and row.outcome (failed_words rows)

-- ---- answers

-- the check with this outcome was made, and passed or failed
abbrev pub was_made : CheckOutcome → Bool
was_made NotMade = false
was_made _ = true

abbrev pub is_failure : CheckOutcome → Bool
is_failure (Failed answer) = true
is_failure _ = false

abbrev pub has_word : Word → CheckOutcome → Bool
has_word word (Failed answer) = number word == number answer.word
has_word word _ = false

-- An RMM may answer with this result word: that of a check that was made and failed, or RMI_SUCCESS if no check failed.
unfoldable pub is_allowed : List EvaluatedCheck → Word → Bool
is_allowed rows word = list_any (λ allowed. number word == number allowed) (or_success (failed_words rows))
