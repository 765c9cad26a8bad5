use Rattle.std.proofs.Common.{List, string_bytes, refl, subst, inl}
use Rattle.std.proofs.lemmas.List.{drop_all}
use Rattle.rmm_model.specs.declared.condition.Condition.TheVariants.{Version}
use Rattle.rmm_checks.specs.declared.evaluated.CheckOutcome.TheVariants.{NotMade}
use Rattle.rmm_checks.specs.declared.evaluated.EvaluatedCheck.{EvaluatedCheck}
use Rattle.trace_program.proofs.Deciding.{Tells, tells_at, tells_end}
use Rattle.trace_program.proofs.reasons.push_all_failed.Goals as goal

pub loop-row-init : goal.loop-row-init
loop-row-init c = inl (record { is_none = refl; same = refl; nothing = refl })

pub loop-row-preserved : goal.loop-row-preserved
loop-row-preserved c =
    let none : EvaluatedCheck = record { condition = Version; outcome = NotMade } in
    tells_at c.args.rows.now c.loop-row.row-index none _ _ _ _ _ c.loop-row-test.true c.loop-row.invariant c.in_ok-is_first.ensures.failed c.in_ok-is_first.ensures.other

pub returns : goal.returns
returns c =
    tells_end _ _ _ _
    (subst (λ (left : List EvaluatedCheck). Tells c.args.rows.now left c.loop-row.is_first (string_bytes c.args.text.now) (string_bytes c.loop-row.text))
    (drop_all c.loop-row.row-index c.args.rows.now c.loop-row-test.false) c.loop-row.invariant)
