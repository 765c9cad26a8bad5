use Rattle.std.proofs.Common.{◌==◌, not, [], ◌∷◌, refl, ap, ◌∙◌}
use Rattle.rmm_model.specs.declared.condition.Condition.TheVariants.{ParamsValid, RdState}
use Rattle.rmm_model.specs.Command.Operand.{realm_at}
use Rattle.rmm_checks.specs.declared.rec_create.RecFacts.{RecFacts}
use Rattle.rmm_checks.proofs.Rows.{on, told}
use Rattle.rmm_checks.proofs.Walked.{told_where, passed_here, first_made}
use Rattle.rmm_checks.proofs.rec_create.add_number.Goals as goal

pub returns-clause-rows : goal.returns-clause-rows
returns-clause-rows g c known same none =
    let realm = realm_at c.args.granules.now c.args.rd in
    on
    (on
    (on
    (told_where (λ made. (ap (λ (f : RecFacts). not f.is_mpidr) (same made), refl)) c.input.ensures.rows)
    (told_where (λ made.
    let facts = same (passed_here none c.input.ensures.rows (first_made c.input.new.self ParamsValid (RdState ∷ []) made)).0 in
    (ap not (c.is_next-is_next.ensures ∙ ap (λ (f : RecFacts). f.number == realm.next_rec) facts), refl)) c.input-2.ensures.rows))
    (told (ap not c.is_new_at-is_new.ensures) c.realm.ensures.rows))
    (told (ap not c.can_have_more-more.ensures) c.realm-2.ensures.rows)
