-- Proofs that the result words allowed to an RMM are those of the failed checks, or RMI_SUCCESS alone if no check
-- failed.
use Rattle.std.proofs.Common.{◌≡◌, ◌==◌, ◌||◌, Bool, true, false, List, [], ◌∷◌, refl, ap, sym, ◌∙◌}
use Rattle.std.specs.List.{list_any}
use Rattle.rmi_abi.specs.declared.word.Word.{Word}
use Rattle.rmi_abi.specs.Word.{number}
use Rattle.rmm_checks.specs.declared.evaluated.CheckOutcome.{CheckOutcome}
use Rattle.rmm_checks.specs.declared.evaluated.CheckOutcome.TheVariants.{NotMade, Passed, Failed}
use Rattle.rmm_checks.specs.declared.evaluated.EvaluatedCheck.{EvaluatedCheck}
use Rattle.rmm_model.specs.Allowed.{or_success}
use Rattle.rmm_checks.specs.Evaluated.{word_and, failed_words, is_failure, has_word, is_allowed}

any_word : (word : Word) (outcome : CheckOutcome) (words : List Word)
    → list_any (λ allowed. number word == number allowed) (word_and outcome words) ≡ (has_word word outcome || list_any (λ allowed. number word == number allowed) words)
any_word word NotMade words = refl
any_word word Passed words = refl
any_word word (Failed answer) words = refl

words_any : (word : Word) (rows : List EvaluatedCheck)
    → list_any (λ allowed. number word == number allowed) (failed_words rows) ≡ list_any (λ row. has_word word row.outcome) rows
unfolding failed_words
words_any word [] = refl
words_any word (r ∷ rows) = any_word word r.outcome (failed_words rows) ∙ ap (λ (b : Bool). has_word word r.outcome || b) (words_any word rows)

or_words : (outcome : CheckOutcome) (words : List Word) (failed : Bool) → (is_failure outcome || failed) ≡ true → (failed ≡ true → or_success words ≡ words)
    → or_success (word_and outcome words) ≡ word_and outcome words
or_words NotMade words failed h more = more h
or_words Passed words failed h more = more h
or_words (Failed answer) words failed h more = refl

some_words : (rows : List EvaluatedCheck) → list_any (λ row. is_failure row.outcome) rows ≡ true → or_success (failed_words rows) ≡ failed_words rows
unfolding failed_words
some_words [] h = cc
some_words (r ∷ rows) h = or_words r.outcome (failed_words rows) (list_any (λ row. is_failure row.outcome) rows) h (λ later. some_words rows later)

no_word : (outcome : CheckOutcome) (words : List Word) (failed : Bool) → (is_failure outcome || failed) ≡ false → (failed ≡ false → words ≡ []) → word_and outcome words ≡ []
no_word NotMade words failed h more = more h
no_word Passed words failed h more = more h
no_word (Failed answer) words failed h more = cc

no_words : (rows : List EvaluatedCheck) → list_any (λ row. is_failure row.outcome) rows ≡ false → failed_words rows ≡ []
unfolding failed_words
no_words [] h = refl
no_words (r ∷ rows) h = no_word r.outcome (failed_words rows) (list_any (λ row. is_failure row.outcome) rows) h (λ later. no_words rows later)

or_nothing : (b : Bool) → (b || false) ≡ b
or_nothing true = refl
or_nothing false = refl

-- if a check failed, the allowed words are those of the failed checks
pub allowed_failed : (rows : List EvaluatedCheck) (word : Word) → list_any (λ row. is_failure row.outcome) rows ≡ true → list_any (λ row. has_word word row.outcome) rows ≡ is_allowed rows word
unfolding is_allowed
allowed_failed rows word h =
    let same = ap (λ (words : List Word). list_any (λ allowed. number word == number allowed) words) (some_words rows h) ∙ words_any word rows in
    sym same

-- if no check failed, the only allowed word is RMI_SUCCESS
pub allowed_success : (rows : List EvaluatedCheck) (word : Word) → list_any (λ row. is_failure row.outcome) rows ≡ false → (number word == 0) ≡ is_allowed rows word
unfolding is_allowed
allowed_success rows word h =
    let same = ap (λ (words : List Word). list_any (λ allowed. number word == number allowed) (or_success words)) (no_words rows h) ∙ or_nothing (number word == 0) in
    sym same
