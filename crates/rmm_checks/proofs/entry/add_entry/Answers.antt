use Rattle.std.proofs.Common.{not, refl, ap, ◌∙◌}
use Rattle.std.proofs.lemmas.Bool.{not-false}
use Rattle.rmm_model.specs.declared.condition.Condition.TheVariants.{RtteState}
use Rattle.rmm_checks.proofs.Rows.{on}
use Rattle.rmm_checks.proofs.Walked.{told_where, passed_here, absent_on}
use Rattle.rmm_checks.proofs.entry.add_entry.Goals as goal

pub returns-clause-rows : goal.returns-clause-rows
returns-clause-rows c at is refused known none =
    on
    (told_where (λ made. (ap not (c.is_at.ensures ∙ (known made).0), (known made).1.1)) c.add.ensures.rows)
    (told_where (λ made. let before = passed_here none c.add.ensures.rows made in (ap not (known before.0).1.0, (known before.0).1.1)) c.add-2.ensures.rows)

pub returns-clause-passed : goal.returns-clause-passed
returns-clause-passed c none_before none made =
    let state = passed_here (absent_on RtteState none refl c.add.ensures.rows) c.add-2.ensures.rows made in
    ((passed_here none_before c.add.ensures.rows state.0).0, not-false c.args.fits state.1)
