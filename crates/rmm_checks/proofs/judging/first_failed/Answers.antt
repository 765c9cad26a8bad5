use Rattle.std.proofs.Common.{◌+◌, get_or, drop, sym, ◌∙◌}
use Rattle.rmm_model.specs.declared.condition.Condition.TheVariants.{Version}
use Rattle.rmm_checks.specs.declared.evaluated.CheckOutcome.TheVariants.{NotMade}
use Rattle.rmm_checks.specs.declared.evaluated.EvaluatedCheck.{EvaluatedCheck}
use Rattle.rmm_checks.specs.Evaluated.{first_failed}
use Rattle.rmm_checks.proofs.FirstFailed.{failed_at, none_here, some_here}
use Rattle.rmm_checks.proofs.judging.first_failed.Goals as goal

pub returns-in-Some : goal.returns-in-Some
returns-in-Some c =
    let i = c.loop-row.row-index in
    let d : EvaluatedCheck = record { condition = Version; outcome = NotMade } in
    let row : EvaluatedCheck = get_or c.args.rows.now i d in
    sym (failed_at c.args.rows.now i d c.loop-row-test.true ∙ some_here row row.outcome (first_failed (drop (i + 1) c.args.rows.now)) c.in-Some.found c.in-Some.ensures) ∙ c.loop-row.invariant

pub loop-row-preserved : goal.loop-row-preserved
loop-row-preserved c =
    let i = c.loop-row.row-index in
    let d : EvaluatedCheck = record { condition = Version; outcome = NotMade } in
    let row : EvaluatedCheck = get_or c.args.rows.now i d in
    sym (failed_at c.args.rows.now i d c.loop-row-test.true ∙ none_here row row.outcome (first_failed (drop (i + 1) c.args.rows.now)) (sym c.in_default.is ∙ c.refusal.ensures)) ∙ c.loop-row.invariant
