use Rattle.std.proofs.Common.{◌≡◌, not, true, [], ◌∷◌, refl, ap}
use Rattle.rmm_model.specs.declared.condition.Condition.TheVariants.{ParamsPas, NumAux, AuxAlign, AuxBound}
use Rattle.rmm_checks.specs.declared.rec_create.RecFacts.{RecFacts}
use Rattle.rmm_checks.specs.Evaluated.{is_made}
use Rattle.rmm_checks.proofs.Rows.{on}
use Rattle.rmm_checks.proofs.Walked.{told_where, passed_here, absent_on, made_before}
use Rattle.rmm_checks.proofs.rec_create.add_aux.Goals as goal

pub returns-clause-rows : goal.returns-clause-rows
returns-clause-rows c known same none_count none_align none_bound =
    let count : is_made c.input.new.self (NumAux ∷ []) ≡ true → is_made c.args.checks.now (ParamsPas ∷ []) ≡ true =
    λ made. (passed_here none_count c.input.ensures.rows made).0 in
    let align : is_made c.input-2.new.self (AuxAlign ∷ []) ≡ true → is_made c.input.new.self (NumAux ∷ []) ≡ true =
    λ made. (passed_here (absent_on AuxAlign none_align refl c.input.ensures.rows) c.input-2.ensures.rows made).0 in
    let bound : is_made c.input-3.new.self (AuxBound ∷ []) ≡ true → is_made c.input-2.new.self (AuxAlign ∷ []) ≡ true =
    λ made. (passed_here (absent_on AuxBound (absent_on AuxBound none_bound refl c.input.ensures.rows) refl c.input-2.ensures.rows) c.input-3.ensures.rows made).0 in
    on
    (on
    (on
    (on
    (told_where (λ made. (ap (λ (f : RecFacts). not f.has_count) (same made), refl)) c.input.ensures.rows)
    (told_where (λ made. (ap (λ (f : RecFacts). not f.are_aligned) (same (count made)), refl)) c.input-2.ensures.rows))
    (told_where (λ made. (ap (λ (f : RecFacts). not f.are_inside) (same (count (align made))), refl)) c.input-3.ensures.rows))
    (told_where (λ made. (ap (λ (f : RecFacts). not f.are_apart) (same (count (made_before NumAux refl c.input-2.ensures.rows (made_before NumAux refl c.input-3.ensures.rows made)))), refl)) c.input-4.ensures.rows))
    (told_where (λ made. (ap (λ (f : RecFacts). not f.are_delegated) (same (count (align (bound (made_before AuxBound refl c.input-4.ensures.rows made))))), refl)) c.input-5.ensures.rows)
