use Rattle.std.proofs.Common.{ℕ, ◌+◌, not, nat_le, refl, ap, ◌∙◌}
use Rattle.rmm_model.specs.declared.condition.Condition.TheVariants.{BaseAlign}
use Rattle.rmm_model.specs.Check.{error_rtt}
use Rattle.rmm_model.specs.Level.{entry_size}
use Rattle.rmm_model.specs.Command.Operand.{is_multiple}
use Rattle.rmm_checks.proofs.Rows.{on}
use Rattle.rmm_checks.proofs.Walked.{told_where, passed_here, made_before}
use Rattle.rmm_checks.proofs.ripas.add_progress.Goals as goal

pub returns-clause-rows : goal.returns-clause-rows
returns-clause-rows c level is known none =
    on
    (on
    (told_where (λ made. (ap not (c.is_multiple-begins.ensures ∙ ap (is_multiple c.args.base) (c.entry_size-size.ensures.value ∙ ap entry_size (known made).0)), ap error_rtt (known made).0)) c.rtt.ensures.rows)
    (told_where (λ made. let k = known (passed_here none c.rtt.ensures.rows made).0 in (ap not k.1, ap error_rtt k.0)) c.rtt-2.ensures.rows))
    (told_where (λ made.
    let k = known (passed_here none c.rtt.ensures.rows (made_before BaseAlign refl c.rtt-2.ensures.rows made)).0 in
    (ap not (c.ends_within-ends.ensures ∙ ap (λ (n : ℕ). nat_le (c.args.base + n) c.args.top) (c.entry_size-size.ensures.value ∙ ap entry_size k.0)), ap error_rtt k.0))
    c.rtt-3.ensures.rows)
