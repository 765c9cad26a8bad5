-- Proofs that the explanation of a refused call, appended line by line, begins with the first failed check.
use Rattle.std.proofs.Common.{◌≡◌, ℕ, Bool, true, false, List, [], ◌∷◌, ◌++◌, refl, sym, ap, ◌∙◌, subst, append_assoc, append-nil, ◌+◌, ◌<◌, suc, length, get_or, drop, add-one, drop-cons, ◌⊎◌, inl, inr}
use Rattle.rmm_checks.specs.declared.evaluated.CheckOutcome.{CheckOutcome}
use Rattle.rmm_checks.specs.declared.evaluated.CheckOutcome.TheVariants.{NotMade, Passed, Failed}
use Rattle.rmm_checks.specs.declared.evaluated.EvaluatedCheck.{EvaluatedCheck}
use Rattle.rmm_checks.specs.Evaluated.{first_failed, is_failure, refusal_or}
use Rattle.trace_program.specs.Refusal.{Extends, decision_text, failed_text}

-- ---- texts that grow

pub extends_same : (text new : List ℕ) → new ≡ text → Extends text new
extends_same text new is = ([], is ∙ sym (append-nil text))

pub extends_on : (old text new : List ℕ) → Extends old text → Extends text new → Extends old new
extends_on old text new e f = (e.0 ++ f.0, f.1 ∙ ap (λ t. t ++ f.0) e.1 ∙ append_assoc old e.0 f.0)

-- if a text extends `old`, so does the text with more appended
pub extends_by : (old text new more : List ℕ) → Extends old text → new ≡ text ++ more → Extends old new
extends_by old text new more e is = extends_on old text new e (more, is)

-- a text that extends `old ++ begin` extends `old`
pub extends_front : (old begin new : List ℕ) → Extends (old ++ begin) new → Extends old new
extends_front old begin new e = extends_on old (old ++ begin) new (begin, refl) e

-- ---- the checks that failed

-- nothing is appended yet, and the first failed check, if any, is among the checks that are left
pub record IsUntold (rows left : List EvaluatedCheck) (is_first : Bool) (begun text : List ℕ) : Type 0 where
  pub is_none : is_first ≡ true
  pub same : first_failed left ≡ first_failed rows
  pub nothing : text ≡ begun

-- Nothing is appended yet, or the appended text begins with the first failed check, if there is one.
abbrev pub Tells : (rows left : List EvaluatedCheck) → (is_first : Bool) (begun text : List ℕ) → Type 0
Tells rows left is_first begun text = IsUntold rows left is_first begun text ⊎ Extends (begun ++ decision_text (first_failed rows)) text

module _ (rows : List EvaluatedCheck) (row : EvaluatedCheck) (left : List EvaluatedCheck) (is_first next : Bool) (begun text new : List ℕ) where
  on_by : (o : CheckOutcome) → row.outcome ≡ o → Tells rows (row ∷ left) is_first begun text
      → (is_failure o ≡ true → Extends (text ++ failed_text is_first row.condition) new)
      → (is_failure o ≡ false → (next ≡ is_first) × (new ≡ text)) → Tells rows left next begun new
  unfolding first_failed
  on_by (Failed answer) is (inl it) fails other =
      let decided = sym (ap (λ o. decision_text (refusal_or row o (first_failed left))) is) ∙ ap decision_text it.same in
      let begins = ap (λ t. t ++ failed_text is_first row.condition) it.nothing ∙ ap (λ l. begun ++ failed_text l row.condition) it.is_none ∙ ap (λ t. begun ++ t) decided in
      inr (subst (λ (t : List ℕ). Extends t new) begins (fails refl))
  on_by (Failed answer) is (inr told) fails other = inr (extends_on _ text new told (extends_front text (failed_text is_first row.condition) new (fails refl)))
  on_by NotMade is (inl it) fails other = inl (record {
    is_none = (other refl).0 ∙ it.is_none;
    same = sym (ap (λ o. refusal_or row o (first_failed left)) is) ∙ it.same;
    nothing = (other refl).1 ∙ it.nothing;
  })
  on_by NotMade is (inr told) fails other = inr (extends_on _ text new told (extends_same text new (other refl).1))
  on_by Passed is (inl it) fails other = inl (record {
    is_none = (other refl).0 ∙ it.is_none;
    same = sym (ap (λ o. refusal_or row o (first_failed left)) is) ∙ it.same;
    nothing = (other refl).1 ∙ it.nothing;
  })
  on_by Passed is (inr told) fails other = inr (extends_on _ text new told (extends_same text new (other refl).1))

  -- the invariant holds after one more check, if the check appends its line when it fails, and changes nothing when it
  -- does not
  pub tells_on : Tells rows (row ∷ left) is_first begun text → (is_failure row.outcome ≡ true → Extends (text ++ failed_text is_first row.condition) new)
      → (is_failure row.outcome ≡ false → (next ≡ is_first) × (new ≡ text)) → Tells rows left next begun new
  tells_on t fails other = on_by row.outcome refl t fails other

-- the invariant holds after the check at index `i`, if that check appends its line when it fails, and changes nothing
-- when it does not
pub tells_at : (rows : List EvaluatedCheck) (i : ℕ) (d : EvaluatedCheck) (is_first next : Bool) (begun text new : List ℕ) → i < length rows → Tells rows (drop i rows) is_first begun text
    → (is_failure (get_or rows i d).outcome ≡ true → Extends (text ++ failed_text is_first (get_or rows i d).condition) new)
    → (is_failure (get_or rows i d).outcome ≡ false → (next ≡ is_first) × (new ≡ text)) → Tells rows (drop (i + 1) rows) next begun new
tells_at rows i d is_first next begun text new inside t fails other =
    let here : drop i rows ≡ get_or rows i d ∷ drop (i + 1) rows = rw (add-one, drop-cons rows i d) in
    tells_on rows (get_or rows i d) (drop (i + 1) rows) is_first next begun text new (subst (λ (left : List EvaluatedCheck). Tells rows left is_first begun text) here t) fails other

-- once no check is left, the appended text begins with the first failed check, if there is one
pub tells_end : (rows : List EvaluatedCheck) (is_first : Bool) (begun text : List ℕ) → Tells rows [] is_first begun text → Extends (begun ++ decision_text (first_failed rows)) text
unfolding first_failed
tells_end rows is_first begun text (inl it) = ([], it.nothing ∙ sym (append-nil begun) ∙ sym (append-nil (begun ++ [])) ∙ ap (λ o. (begun ++ decision_text o) ++ []) it.same)
tells_end rows is_first begun text (inr told) = told
