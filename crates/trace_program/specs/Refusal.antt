-- The text that explains a refused call: the text begins with the check that decides the answer.
use Rattle.std.specs.Prelude.{◌≡◌, ℕ, Bool, true, false, List, [], ◌++◌, codes, Option, Some, None}
use Rattle.rmm_model.specs.declared.answer.FailedCondition.{FailedCondition}
use Rattle.rmm_model.specs.declared.condition.Condition.{Condition}
use Rattle.rmm_checks.specs.declared.evaluated.EvaluatedCheck.{EvaluatedCheck}
use Rattle.rmm_checks.specs.Evaluated.{first_failed}
use Rattle.rmm_checks.specs.Names.{name_of}

-- the new text begins with the old one
abbrev pub Extends : (old new : List ℕ) → Type 0
Extends old new = (more : List ℕ) × (new ≡ old ++ more)

-- the label of a failed check, `error` for the first one and `also` for all others
abbrev pub label_text : (is_first : Bool) → List ℕ
label_text true = codes "error"
label_text false = codes "also"

-- the beginning of the line about a failed check: the label and the check's name
abbrev pub failed_text : (is_first : Bool) → Condition → List ℕ
failed_text is_first condition = codes "    " ++ label_text is_first ++ codes ": " ++ name_of condition ++ codes ": "

-- the beginning of the line about the check that decides the answer; nothing if no check decides it
abbrev pub decision_text : Option FailedCondition → List ℕ
decision_text (Some failed) = failed_text true failed.condition
decision_text None = []

-- The text that explains a refused call begins with the first check that failed. Without checks the text is empty.
abbrev pub TellsDecision : Option (List EvaluatedCheck) → List ℕ → Type 0
TellsDecision (Some checks) text = Extends (decision_text (first_failed checks)) text
TellsDecision None text = text ≡ []
