use Rattle.std.proofs.Common.{List, sym, ap, ◌∙◌}
use Rattle.std.specs.List.{list_any}
use Rattle.rmm_checks.specs.declared.evaluated.EvaluatedCheck.{EvaluatedCheck}
use Rattle.rmm_checks.specs.Evaluated.{is_failure, has_word}
use Rattle.rmm_checks.proofs.Words.{allowed_failed}
use Rattle.rmm_checks.proofs.evaluated.EvaluatedChecks.allows.Goals as goal

pub returns-then-has_failed : goal.returns-then-has_failed
returns-then-has_failed c =
    let failed = sym (ap (λ (rows : List EvaluatedCheck). list_any (λ row. is_failure row.outcome) rows) c.rows-rows.ensures) ∙ sym c.has_failed.ensures ∙ c.if-has_failed.true in
    c.has_word.ensures
    ∙ ap (λ (rows : List EvaluatedCheck). list_any (λ row. has_word c.args.word row.outcome) rows) c.rows-rows.ensures
    ∙ allowed_failed c.args.self.now c.args.word failed
