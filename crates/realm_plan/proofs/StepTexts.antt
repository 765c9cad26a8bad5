-- A proof that a text means a step if and only if the text is the step's spelling and each number of the step is in its
-- range.
use Rattle.std.proofs.Common.{◌≡◌, ℕ, List, Option, Some, None, sym, ◌∙◌}
use Rattle.std.specs.Prelude.{IfSome, IfNone}
use Rattle.decimal_text.proofs.Grammars.{IsGrammar, meaning_of_spelled, spelled_from_meaning}
use Rattle.realm_plan.specs.declared.step.PlanStep.{PlanStep}
use Rattle.realm_plan.specs.Steps.{step_at, step_of}
use Rattle.realm_plan.specs.StepsWritten.{written_step, IsStepInRange, IsStepText}
use Rattle.realm_plan.proofs.StepMeans.{means, one_word, few_numbers}
use Rattle.realm_plan.proofs.StepSpells.{spells}

pub steps : IsGrammar (λ s. (written_step s).word) (λ s. (written_step s).numbers) IsStepInRange step_at 17
steps = record { means = means; spells = spells; one_word = one_word; few_numbers = few_numbers }

pub text_of_step : (text : List ℕ) (step : PlanStep) → step_of text ≡ Some step → IsStepText text step
text_of_step text step e =
    let (spelled, in_range) = spelled_from_meaning steps text step e in
    record { is_spelled = spelled; in_range = in_range }

pub step_of_text : (text : List ℕ) (step : PlanStep) → IsStepText text step → step_of text ≡ Some step
step_of_text text step is = meaning_of_spelled steps text step is.is_spelled is.in_range

pub found_is_step : (text : List ℕ) (found : Option PlanStep) → found ≡ step_of text → IfSome found (λ step. IsStepText text step)
found_is_step text None e = tt
found_is_step text (Some step) e = text_of_step text step (sym e)

pub none_is_step : (text : List ℕ) (found : Option PlanStep) → found ≡ step_of text → IfNone found ((step : PlanStep) → IsStepText text step → ⊥)
none_is_step text None e = λ step is. let bad : None ≡ Some step = e ∙ step_of_text text step is in cc
none_is_step text (Some step) e = tt

-- two steps with the same spelling are equal
pub spelled_once : (text : List ℕ) (a b : PlanStep) → IsStepText text a → IsStepText text b → a ≡ b
spelled_once text a b is_a is_b =
    let same : Some a ≡ Some b = sym (step_of_text text a is_a) ∙ step_of_text text b is_b in
    cc
