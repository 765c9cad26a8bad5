-- Proofs that the first failed check of a call, and the result words of all failed checks, agree with the command's
-- definition.
use Rattle.std.specs.Prelude.{if◌then◌else◌}
use Rattle.std.proofs.Common.{◌≡◌, ◌==◌, ◌&&◌, ◌||◌, Bool, true, false, cond, List, [], ◌∷◌, ◌++◌, Option, Some, None, ⊎_elim, refl, ap, sym, ◌∙◌, append_assoc}
use Rattle.std.specs.List.{list_all}
use Rattle.std.proofs.lemmas.Bool.{and_parts, and_from, or_cases}
use Rattle.rmi_abi.specs.declared.registers.SmcResult.{SmcResult}
use Rattle.rmi_abi.specs.declared.word.Word.{Word}
use Rattle.rmm_model.specs.declared.answer.FailedCondition.{FailedCondition}
use Rattle.rmm_model.specs.declared.condition.Condition.{Condition}
use Rattle.rmm_checks.specs.declared.evaluated.CheckOutcome.{CheckOutcome}
use Rattle.rmm_checks.specs.declared.evaluated.CheckOutcome.TheVariants.{NotMade, Passed, Failed}
use Rattle.rmm_checks.specs.declared.evaluated.EvaluatedCheck.{EvaluatedCheck}
use Rattle.rmm_model.specs.Allowed.{condition_number, is_among, words_after}
use Rattle.rmm_model.specs.Check.{Check, first_failing}
use Rattle.rmm_checks.specs.Evaluated.{is_pass, is_passed, is_made, outcome_of, row_after, evaluated_after, refusal_or, first_failed, word_and, failed_words}
use Rattle.rmm_checks.proofs.Sure.{or_false, and_false, list_all_more, passed-on}

-- ---- outcomes

unmade_outcome : (made : Bool) (c : Check) → made ≡ false → outcome_of made c ≡ NotMade
unmade_outcome true c h = cc
unmade_outcome false c h = refl

made_outcome : (made : Bool) (c : Check) → made ≡ true → outcome_of made c ≡ (if c.fails then Failed c.refusal.answer else Passed)
made_outcome true c h = refl
made_outcome false c h = cc

failed_outcome : (fails : Bool) (answer : SmcResult) → fails ≡ true → (if fails then Failed answer else Passed) ≡ Failed answer
failed_outcome true answer h = refl
failed_outcome false answer h = cc

passed_outcome : (fails : Bool) (answer : SmcResult) → fails ≡ false → (if fails then Failed answer else Passed) ≡ Passed
passed_outcome true answer h = cc
passed_outcome false answer h = refl

abbrev row : Condition → CheckOutcome → EvaluatedCheck
row condition outcome = record { condition = condition; outcome = outcome }

row_unmade : (rows : List EvaluatedCheck) (c : Check) → is_made rows c.after ≡ false → row_after rows c ≡ row c.refusal.condition NotMade
row_unmade rows c h = ap (row c.refusal.condition) (unmade_outcome (is_made rows c.after) c h)

row_failed : (rows : List EvaluatedCheck) (c : Check) → is_made rows c.after ≡ true → c.fails ≡ true → row_after rows c ≡ row c.refusal.condition (Failed c.refusal.answer)
row_failed rows c h fails = ap (row c.refusal.condition) (made_outcome (is_made rows c.after) c h ∙ failed_outcome c.fails c.refusal.answer fails)

row_passed : (rows : List EvaluatedCheck) (c : Check) → is_made rows c.after ≡ true → c.fails ≡ false → row_after rows c ≡ row c.refusal.condition Passed
row_passed rows c h passes = ap (row c.refusal.condition) (made_outcome (is_made rows c.after) c h ∙ passed_outcome c.fails c.refusal.answer passes)

-- ---- the first that failed

none_or : (r : EvaluatedCheck) (outcome : CheckOutcome) (front all rest : Option FailedCondition)
    → refusal_or r outcome front ≡ None → (front ≡ None → all ≡ rest) → refusal_or r outcome all ≡ rest
none_or r NotMade front all rest none more = more none
none_or r Passed front all rest none more = more none
none_or r (Failed answer) front all rest none more = cc

some_or : (r : EvaluatedCheck) (outcome : CheckOutcome) (front all : Option FailedCondition) (found : FailedCondition)
    → refusal_or r outcome front ≡ Some found → (front ≡ Some found → all ≡ Some found) → refusal_or r outcome all ≡ Some found
some_or r NotMade front all found some more = more some
some_or r Passed front all found some more = more some
some_or r (Failed answer) front all found some more = some

first_failed-later : (rows more : List EvaluatedCheck) → first_failed rows ≡ None → first_failed (rows ++ more) ≡ first_failed more
unfolding first_failed
first_failed-later [] more none = refl
first_failed-later (r ∷ rows) more none = none_or r r.outcome (first_failed rows) (first_failed (rows ++ more)) (first_failed more) none (λ h. first_failed-later rows more h)

first_failed-here : (rows more : List EvaluatedCheck) (found : FailedCondition) → first_failed rows ≡ Some found → first_failed (rows ++ more) ≡ Some found
unfolding first_failed
first_failed-here [] more found some = cc
first_failed-here (r ∷ rows) more found some = some_or r r.outcome (first_failed rows) (first_failed (rows ++ more)) found some (λ h. first_failed-here rows more found h)

first_failed-kept : (rows : List EvaluatedCheck) (cs : List Check) (found : FailedCondition) → first_failed rows ≡ Some found → first_failed (evaluated_after rows cs) ≡ Some found
unfolding evaluated_after
first_failed-kept rows [] found some = some
first_failed-kept rows (c ∷ cs) found some = first_failed-kept (rows ++ row_after rows c ∷ []) cs found (first_failed-here rows (row_after rows c ∷ []) found some)

one_failed : (condition : Condition) (answer : SmcResult) → first_failed (row condition (Failed answer) ∷ []) ≡ Some (record { condition = condition; answer = answer })
unfolding first_failed
one_failed condition answer = refl

one_passed : (condition : Condition) → first_failed (row condition Passed ∷ []) ≡ None
unfolding first_failed
one_passed condition = refl

-- each check depends only on conditions in `seen` or of checks before it in the list
abbrev pub is_ordered : List Condition → List Check → Bool
is_ordered seen [] = true
is_ordered seen (c ∷ cs) = list_all (is_among seen) c.after && is_ordered (c.refusal.condition ∷ seen) cs

abbrev ArePassed : List Condition → List EvaluatedCheck → Type 0
ArePassed seen rows = (x : Condition) → is_among seen x ≡ true → is_passed rows x ≡ true

or_left : (a b : Bool) → a ≡ true → (a || b) ≡ true
or_left true b h = refl
or_left false b h = cc

or_right : (a b : Bool) → b ≡ true → (a || b) ≡ true
or_right true b h = refl
or_right false b h = h

passed_too : (seen : List Condition) (rows : List EvaluatedCheck) (condition : Condition) → ArePassed seen rows → ArePassed (condition ∷ seen) (rows ++ row condition Passed ∷ [])
passed_too seen rows condition before x h =
    let here : Bool = condition_number condition == condition_number x in
    passed-on rows (row condition Passed) x
    ∙ ⊎_elim
    (λ (new : here ≡ true). or_right (is_passed rows x) (here && true) (and_from here true new refl))
    (λ (old : is_among seen x ≡ true). or_left (is_passed rows x) (here && true) (before x old))
    (or_cases here (is_among seen x) h)

decides_by : (seen : List Condition) (c : Check) (cs : List Check) (rows : List EvaluatedCheck) (fails : Bool) → c.fails ≡ fails → first_failed rows ≡ None → is_made rows c.after ≡ true
    → (c.fails ≡ false → first_failed (rows ++ row c.refusal.condition Passed ∷ []) ≡ None → first_failed (evaluated_after (rows ++ row c.refusal.condition Passed ∷ []) cs) ≡ first_failing cs)
    → first_failed (evaluated_after (rows ++ row_after rows c ∷ []) cs) ≡ cond fails (Some c.refusal) (first_failing cs)
decides_by seen c cs rows true fails none made rest =
    first_failed-kept (rows ++ row_after rows c ∷ []) cs c.refusal
    (first_failed-later rows (row_after rows c ∷ []) none
    ∙ ap (λ (r : EvaluatedCheck). first_failed (r ∷ [])) (row_failed rows c made fails)
    ∙ one_failed c.refusal.condition c.refusal.answer)
decides_by seen c cs rows false passes none made rest =
    ap (λ (r : EvaluatedCheck). first_failed (evaluated_after (rows ++ r ∷ []) cs)) (row_passed rows c made passes)
    ∙ rest passes (first_failed-later rows (row c.refusal.condition Passed ∷ []) none ∙ one_passed c.refusal.condition)

decides : (seen : List Condition) (cs : List Check) (rows : List EvaluatedCheck) → first_failed rows ≡ None → ArePassed seen rows → is_ordered seen cs ≡ true
    → first_failed (evaluated_after rows cs) ≡ first_failing cs
unfolding evaluated_after is_made
decides seen [] rows none before ordered = none
decides seen (c ∷ cs) rows none before ordered =
    let parts = and_parts (list_all (is_among seen) c.after) (is_ordered (c.refusal.condition ∷ seen) cs) ordered in
    let made : is_made rows c.after ≡ true = list_all_more (is_among seen) (is_passed rows) before c.after parts.0 in
    decides_by seen c cs rows c.fails refl none made
    (λ passes later. decides (c.refusal.condition ∷ seen) cs (rows ++ row c.refusal.condition Passed ∷ []) later (passed_too seen rows c.refusal.condition before) parts.1)

none_failed : first_failed [] ≡ None
unfolding first_failed
none_failed = refl

none_among : ArePassed [] []
none_among x h = cc

-- if each check comes after those on which it depends, the first check that was made and failed is the first one whose
-- `fails` is true
pub first_failed-evaluated : (cs : List Check) → is_ordered [] cs ≡ true → first_failed (evaluated_after [] cs) ≡ first_failing cs
first_failed-evaluated cs ordered = decides [] cs [] none_failed none_among ordered

-- ---- words

and_words : (outcome : CheckOutcome) (words more : List Word) → word_and outcome (words ++ more) ≡ word_and outcome words ++ more
and_words NotMade words more = refl
and_words Passed words more = refl
and_words (Failed answer) words more = refl

failed_words-append : (rows more : List EvaluatedCheck) → failed_words (rows ++ more) ≡ failed_words rows ++ failed_words more
unfolding failed_words
failed_words-append [] more = refl
failed_words-append (r ∷ rows) more = ap (word_and r.outcome) (failed_words-append rows more) ∙ and_words r.outcome (failed_words rows) (failed_words more)

append_none : (words : List Word) → words ++ [] ≡ words
append_none [] = refl
append_none (word ∷ words) = ap (λ (rest : List Word). word ∷ rest) (append_none words)

list_all_same : (p q : Condition → Bool) → ((x : Condition) → p x ≡ q x) → (xs : List Condition) → list_all p xs ≡ list_all q xs
list_all_same p q same [] = refl
list_all_same p q same (x ∷ xs) = ap (λ (b : Bool). b && list_all p xs) (same x) ∙ ap (λ (b : Bool). q x && b) (list_all_same p q same xs)

abbrev ArePassedOnes : List Condition → List EvaluatedCheck → Type 0
ArePassedOnes passed rows = (x : Condition) → is_among passed x ≡ is_passed rows x

or_swap : (a b : Bool) → (a || b) ≡ (b || (a && true))
or_swap true true = refl
or_swap true false = refl
or_swap false true = refl
or_swap false false = refl

and_nothing : (b : Bool) → b ≡ (b || false)
and_nothing b = sym (or_false b)

passed_one : (passed : List Condition) (rows : List EvaluatedCheck) (condition : Condition) → ArePassedOnes passed rows → ArePassedOnes (condition ∷ passed) (rows ++ row condition Passed ∷ [])
passed_one passed rows condition before x =
    let here : Bool = condition_number condition == condition_number x in
    or_swap here (is_among passed x) ∙ ap (λ (b : Bool). b || (here && true)) (before x) ∙ sym (passed-on rows (row condition Passed) x)

other_one : (passed : List Condition) (rows : List EvaluatedCheck) (condition : Condition) (outcome : CheckOutcome) → is_pass outcome ≡ false → ArePassedOnes passed rows
    → ArePassedOnes passed (rows ++ row condition outcome ∷ [])
other_one passed rows condition outcome other before x =
    let here : Bool = condition_number condition == condition_number x in
    before x ∙ and_nothing (is_passed rows x) ∙ ap (λ (b : Bool). is_passed rows x || b) (sym (and_false here) ∙ ap (λ (b : Bool). here && b) (sym other))
    ∙ sym (passed-on rows (row condition outcome) x)

module _ (passed : List Condition) (c : Check) (cs : List Check) (rows : List EvaluatedCheck) where
  -- if the later checks add the result words `rest`, this check adds its own word before `rest`, provided that its
  -- outcome is a failure
  words_by : (outcome : CheckOutcome) → row_after rows c ≡ row c.refusal.condition outcome → (rest : List Word)
      → failed_words (evaluated_after (rows ++ row c.refusal.condition outcome ∷ []) cs) ≡ failed_words (rows ++ row c.refusal.condition outcome ∷ []) ++ rest
      → failed_words (evaluated_after (rows ++ row_after rows c ∷ []) cs) ≡ failed_words rows ++ (failed_words (row c.refusal.condition outcome ∷ []) ++ rest)
  words_by outcome is rest later =
      ap (λ (r : EvaluatedCheck). failed_words (evaluated_after (rows ++ r ∷ []) cs)) is
      ∙ later
      ∙ ap (λ (words : List Word). words ++ rest) (failed_words-append rows (row c.refusal.condition outcome ∷ []))
      ∙ append_assoc (failed_words rows) (failed_words (row c.refusal.condition outcome ∷ [])) rest

words_at : (passed : List Condition) (c : Check) (cs : List Check) (made fails : Bool) → list_all (is_among passed) c.after ≡ made → c.fails ≡ fails
    → words_after passed (c ∷ cs) ≡ (if made then (if fails then c.refusal.answer.word ∷ words_after passed cs else words_after (c.refusal.condition ∷ passed) cs) else words_after passed cs)
unfolding words_after
words_at passed c cs made fails is_made fail =
    ap (λ (b : Bool). if b then (if c.fails then c.refusal.answer.word ∷ words_after passed cs else words_after (c.refusal.condition ∷ passed) cs) else words_after passed cs) is_made
    ∙ ap (λ (b : Bool). if made then (if b then c.refusal.answer.word ∷ words_after passed cs else words_after (c.refusal.condition ∷ passed) cs) else words_after passed cs) fail

words_split : (passed : List Condition) (c : Check) (cs : List Check) (rows : List EvaluatedCheck) (made fails : Bool) → list_all (is_among passed) c.after ≡ made → c.fails ≡ fails
    → ArePassedOnes passed rows
    → ((more : List Condition) (s : List EvaluatedCheck) → ArePassedOnes more s → failed_words (evaluated_after s cs) ≡ failed_words s ++ words_after more cs)
    → failed_words (evaluated_after (rows ++ row_after rows c ∷ []) cs) ≡ failed_words rows ++ words_after passed (c ∷ cs)
unfolding failed_words is_made
words_split passed c cs rows false fails is_made fail before later =
    let unmade = sym (list_all_same (is_among passed) (is_passed rows) before c.after) ∙ is_made in
    words_by passed c cs rows NotMade (row_unmade rows c unmade) (words_after passed cs)
    (later passed (rows ++ row c.refusal.condition NotMade ∷ []) (other_one passed rows c.refusal.condition NotMade refl before))
    ∙ ap (λ (words : List Word). failed_words rows ++ words) (sym (words_at passed c cs false fails is_made fail))
words_split passed c cs rows true true is_made fail before later =
    let made = sym (list_all_same (is_among passed) (is_passed rows) before c.after) ∙ is_made in
    let outcome : CheckOutcome = Failed c.refusal.answer in
    words_by passed c cs rows outcome (row_failed rows c made fail) (words_after passed cs)
    (later passed (rows ++ row c.refusal.condition outcome ∷ []) (other_one passed rows c.refusal.condition outcome refl before))
    ∙ ap (λ (words : List Word). failed_words rows ++ words) (sym (words_at passed c cs true true is_made fail))
words_split passed c cs rows true false is_made fail before later =
    let made = sym (list_all_same (is_among passed) (is_passed rows) before c.after) ∙ is_made in
    words_by passed c cs rows Passed (row_passed rows c made fail) (words_after (c.refusal.condition ∷ passed) cs)
    (later (c.refusal.condition ∷ passed) (rows ++ row c.refusal.condition Passed ∷ []) (passed_one passed rows c.refusal.condition before))
    ∙ ap (λ (words : List Word). failed_words rows ++ words) (sym (words_at passed c cs true false is_made fail))

words_on : (cs : List Check) (passed : List Condition) (rows : List EvaluatedCheck) → ArePassedOnes passed rows → failed_words (evaluated_after rows cs) ≡ failed_words rows ++ words_after passed cs
unfolding evaluated_after words_after
words_on [] passed rows before = sym (append_none (failed_words rows))
words_on (c ∷ cs) passed rows before =
    words_split passed c cs rows (list_all (is_among passed) c.after) c.fails refl refl before (λ more s agree. words_on cs more s agree)

same_none : ArePassedOnes [] []
unfolding is_passed
same_none x = refl

-- evaluating checks in sequence gives the failed checks the result words that `words_after` defines
pub failed_words-evaluated : (cs : List Check) → failed_words (evaluated_after [] cs) ≡ words_after [] cs
unfolding failed_words
failed_words-evaluated cs = words_on cs [] [] same_none
