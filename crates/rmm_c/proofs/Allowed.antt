-- Proofs that the allowed values of X0 are the result words of the failed checks or, if no check failed, RMI_SUCCESS.
use Rattle.std.proofs.Common.{ℕ, ◌≡◌, ◌==◌, ◌||◌, Bool, true, false, List, [], ◌∷◌, refl, ap, sym, ◌∙◌}
use Rattle.std.specs.List.{list_any}
use Rattle.rmi_abi.specs.declared.word.Word.{Word}
use Rattle.rmm_checks.specs.declared.evaluated.CheckOutcome.{CheckOutcome}
use Rattle.rmm_checks.specs.declared.evaluated.CheckOutcome.TheVariants.{NotMade, Passed, Failed}
use Rattle.rmm_checks.specs.declared.evaluated.EvaluatedCheck.{EvaluatedCheck}
use Rattle.rmm_model.specs.Allowed.{or_success}
use Rattle.rmm_checks.specs.Evaluated.{word_and, failed_words, is_failure}
use Rattle.rmm_c.specs.Judging.{is_among_words, refuses_with}

any_word : (x0 : ℕ) (outcome : CheckOutcome) (words : List Word)
    → is_among_words x0 (word_and outcome words) ≡ (refuses_with x0 outcome || is_among_words x0 words)
any_word x0 NotMade words = refl
any_word x0 Passed words = refl
any_word x0 (Failed answer) words = refl

words_any : (x0 : ℕ) (rows : List EvaluatedCheck) → is_among_words x0 (failed_words rows) ≡ list_any (λ row. refuses_with x0 row.outcome) rows
unfolding failed_words
words_any x0 [] = refl
words_any x0 (r ∷ rows) = any_word x0 r.outcome (failed_words rows) ∙ ap (λ (b : Bool). refuses_with x0 r.outcome || b) (words_any x0 rows)

or_words : (outcome : CheckOutcome) (words : List Word) (failed : Bool) → (is_failure outcome || failed) ≡ true → (failed ≡ true → or_success words ≡ words)
    → or_success (word_and outcome words) ≡ word_and outcome words
or_words NotMade words failed h more = more h
or_words Passed words failed h more = more h
or_words (Failed answer) words failed h more = refl

some_words : (rows : List EvaluatedCheck) → list_any (λ row. is_failure row.outcome) rows ≡ true → or_success (failed_words rows) ≡ failed_words rows
unfolding failed_words
some_words [] h = cc
some_words (r ∷ rows) h = or_words r.outcome (failed_words rows) (list_any (λ row. is_failure row.outcome) rows) h (λ later. some_words rows later)

no_word : (outcome : CheckOutcome) (words : List Word) (failed : Bool) → (is_failure outcome || failed) ≡ false → (failed ≡ false → words ≡ []) → word_and outcome words ≡ []
no_word NotMade words failed h more = more h
no_word Passed words failed h more = more h
no_word (Failed answer) words failed h more = cc

no_words : (rows : List EvaluatedCheck) → list_any (λ row. is_failure row.outcome) rows ≡ false → failed_words rows ≡ []
unfolding failed_words
no_words [] h = refl
no_words (r ∷ rows) h = no_word r.outcome (failed_words rows) (list_any (λ row. is_failure row.outcome) rows) h (λ later. no_words rows later)

or_nothing : (b : Bool) → (b || false) ≡ b
or_nothing true = refl
or_nothing false = refl

-- if a check failed, the allowed words are those of the failed checks
pub failed_any : (rows : List EvaluatedCheck) (x0 : ℕ) → list_any (λ row. is_failure row.outcome) rows ≡ true
    → list_any (λ row. refuses_with x0 row.outcome) rows ≡ is_among_words x0 (or_success (failed_words rows))
failed_any rows x0 h = sym (ap (λ (words : List Word). is_among_words x0 words) (some_words rows h) ∙ words_any x0 rows)

-- if no check failed, the only allowed word is RMI_SUCCESS
pub passed_any : (rows : List EvaluatedCheck) (x0 : ℕ) → list_any (λ row. is_failure row.outcome) rows ≡ false
    → (x0 == 0) ≡ is_among_words x0 (or_success (failed_words rows))
passed_any rows x0 h = sym (ap (λ (words : List Word). is_among_words x0 (or_success words)) (no_words rows h) ∙ or_nothing (x0 == 0))
