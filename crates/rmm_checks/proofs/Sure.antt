-- Proofs that a check evaluated as passed does not fail by its definition, nor does any check on which it depends.
use Rattle.std.specs.Prelude.{if◌then◌else◌}
use Rattle.std.proofs.Common.{◌≡◌, ℕ, zero, suc, ◌==◌, ◌&&◌, ◌||◌, Bool, true, false, not, List, [], ◌∷◌, ◌++◌, ⊎_elim, refl, ap, sym, ◌∙◌}
use Rattle.std.specs.List.{list_all, list_any}
use Rattle.std.proofs.lemmas.Bool.{and_parts, and_from, or_cases, cases_Bool}
use Rattle.std.proofs.lemmas.List.Folds.{list_any-append}
use Rattle.rmi_abi.specs.declared.registers.SmcResult.{SmcResult}
use Rattle.rmm_model.specs.declared.condition.Condition.{Condition}
use Rattle.rmm_checks.specs.declared.evaluated.CheckOutcome.TheVariants.{NotMade, Passed, Failed}
use Rattle.rmm_checks.specs.declared.evaluated.EvaluatedCheck.{EvaluatedCheck}
use Rattle.rmm_model.specs.Allowed.{condition_number}
use Rattle.rmm_model.specs.Check.{Check}
use Rattle.rmm_checks.specs.Evaluated.{is_pass, is_passed, is_made, row_after, evaluated_after}

-- ---- tests

pub or_false : (b : Bool) → (b || false) ≡ b
or_false true = refl
or_false false = refl

pub and_false : (b : Bool) → (b && false) ≡ false
and_false true = refl
and_false false = refl

or_left : (a b : Bool) → a ≡ true → (a || b) ≡ true
or_left true b h = refl
or_left false b h = cc

or_right : (a b : Bool) → b ≡ true → (a || b) ≡ true
or_right true b h = refl
or_right false b h = h

pub list_all_more : (p q : Condition → Bool) → ((x : Condition) → p x ≡ true → q x ≡ true) → (xs : List Condition) → list_all p xs ≡ true → list_all q xs ≡ true
list_all_more p q more [] h = refl
list_all_more p q more (x ∷ xs) h =
    let parts = and_parts (p x) (list_all p xs) h in
    and_from (q x) (list_all q xs) (more x parts.0) (list_all_more p q more xs parts.1)

-- ---- one row more

pub passed-on : (rows : List EvaluatedCheck) (row : EvaluatedCheck) (x : Condition)
    → is_passed (rows ++ row ∷ []) x ≡ (is_passed rows x || (condition_number row.condition == condition_number x && is_pass row.outcome))
unfolding is_passed
passed-on rows row x =
    let test : EvaluatedCheck → Bool = λ r. condition_number r.condition == condition_number x && is_pass r.outcome in
    list_any-append test rows (row ∷ []) ∙ ap (λ (b : Bool). list_any test rows || b) (or_false (test row))

pub pass_parts : (made fails : Bool) (answer : SmcResult) → is_pass (if made then (if fails then Failed answer else Passed) else NotMade) ≡ true → (made ≡ true) × (fails ≡ false)
pass_parts true false answer h = (refl, refl)
pass_parts true true answer h = (cc, cc)
pass_parts false fails answer h = (cc, cc)

-- ---- checks that do not fail

-- some check of a condition does not fail, and the same holds of each condition on which that check depends, down to
-- the given depth
abbrev pub sure : ℕ → List Check → Condition → Bool
sure zero cs x = true
sure (suc n) cs x = list_any (λ c. (condition_number c.refusal.condition == condition_number x && not c.fails) && list_all (sure n cs) c.after) cs

abbrev IsSure : List Check → List EvaluatedCheck → Type 0
IsSure all rows = (x : Condition) → is_passed rows x ≡ true → (n : ℕ) → sure n all x ≡ true

sure_here : (all : List Check) (rows : List EvaluatedCheck) (c : Check) → ((p : Check → Bool) → p c ≡ true → list_any p all ≡ true) → IsSure all rows
    → (x : Condition) → (condition_number c.refusal.condition == condition_number x) ≡ true → c.fails ≡ false → is_made rows c.after ≡ true → (n : ℕ) → sure n all x ≡ true
unfolding is_made
sure_here all rows c inside before x same passes made zero = refl
sure_here all rows c inside before x same passes made (suc n) =
    let front = and_from (condition_number c.refusal.condition == condition_number x) (not c.fails) same (ap not passes) in
    let back = list_all_more (is_passed rows) (sure n all) (λ y h. before y h n) c.after made in
    inside (λ d. (condition_number d.refusal.condition == condition_number x && not d.fails) && list_all (sure n all) d.after)
    (and_from (condition_number c.refusal.condition == condition_number x && not c.fails) (list_all (sure n all) c.after) front back)

sure_on : (all : List Check) (rows : List EvaluatedCheck) (c : Check) → ((p : Check → Bool) → p c ≡ true → list_any p all ≡ true) → IsSure all rows → IsSure all (rows ++ row_after rows c ∷ [])
sure_on all rows c inside before x passed n =
    let row : EvaluatedCheck = row_after rows c in
    let here : Bool = condition_number row.condition == condition_number x && is_pass row.outcome in
    ⊎_elim
    (λ (old : is_passed rows x ≡ true). before x old n)
    (λ (new : here ≡ true).
    let parts = and_parts (condition_number row.condition == condition_number x) (is_pass row.outcome) new in
    let both = pass_parts (is_made rows c.after) c.fails c.refusal.answer parts.1 in
    sure_here all rows c inside before x parts.0 both.1 both.0 n)
    (or_cases (is_passed rows x) here (sym (passed-on rows row x) ∙ passed))

sure_after : (all cs : List Check) (rows : List EvaluatedCheck) → ((p : Check → Bool) → list_any p cs ≡ true → list_any p all ≡ true) → IsSure all rows → IsSure all (evaluated_after rows cs)
unfolding evaluated_after
sure_after all [] rows inside before = before
sure_after all (c ∷ cs) rows inside before =
    sure_after all cs (rows ++ row_after rows c ∷ []) (λ p h. inside p (or_right (p c) (list_any p cs) h))
    (sure_on all rows c (λ p h. inside p (or_left (p c) (list_any p cs) h)) before)

none_passed : (all : List Check) → IsSure all []
unfolding is_passed
none_passed all x h n = cc

pub passed-sure : (cs : List Check) (x : Condition) (n : ℕ) → is_passed (evaluated_after [] cs) x ≡ true → sure n cs x ≡ true
passed-sure cs x n h = sure_after cs cs [] (λ p found. found) (none_passed cs) x h n

pub made-sure : (cs : List Check) (after : List Condition) (n : ℕ) → is_made (evaluated_after [] cs) after ≡ true → list_all (sure n cs) after ≡ true
unfolding is_made
made-sure cs after n h = list_all_more (is_passed (evaluated_after [] cs)) (sure n cs) (λ x passed. passed-sure cs x n passed) after h

-- a check is not made if some condition on which it depends is not sure to pass
pub unmade : (cs : List Check) (after : List Condition) (n : ℕ) → list_all (sure n cs) after ≡ false → is_made (evaluated_after [] cs) after ≡ false
unmade cs after n fails =
    ⊎_elim
    (λ (made : is_made (evaluated_after [] cs) after ≡ true). let all = made-sure cs after n made in cc)
    (λ (not_made : is_made (evaluated_after [] cs) after ≡ false). not_made)
    (cases_Bool (is_made (evaluated_after [] cs) after))

-- a condition whose every check fails, or that has no check, is not passed
pub absent : (cs : List Check) (x : Condition) → sure 1 cs x ≡ false → is_passed (evaluated_after [] cs) x ≡ false
absent cs x none =
    ⊎_elim
    (λ (passed : is_passed (evaluated_after [] cs) x ≡ true). let one = passed-sure cs x 1 passed in cc)
    (λ (not_passed : is_passed (evaluated_after [] cs) x ≡ false). not_passed)
    (cases_Bool (is_passed (evaluated_after [] cs) x))
