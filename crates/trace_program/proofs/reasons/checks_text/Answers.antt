use Rattle.std.proofs.Common.{rules, ◌≡◌, ℕ, List, [], ◌++◌, string_bytes, subst}
use Rattle.rmm_checks.specs.declared.evaluated.EvaluatedCheck.{EvaluatedCheck}
use Rattle.rmm_checks.specs.Evaluated.{first_failed}
use Rattle.trace_program.specs.Refusal.{Extends, decision_text}
use Rattle.trace_program.proofs.Deciding.{extends_on}
use Rattle.trace_program.proofs.reasons.checks_text.Goals as goal

pub returns : goal.returns
returns c =
    let new = string_bytes c.push_all_failed.new.text in
    let empty : string_bytes c.new-text.result ≡ [] = search rules in
    let begun = subst (λ (old : List ℕ). Extends (old ++ decision_text (first_failed c.rows.result.now)) new) empty c.in_ok-push_all_failed.ensures in
    let told = subst (λ (rows : List EvaluatedCheck). Extends (decision_text (first_failed rows)) new) c.rows.ensures begun in
    extends_on _ _ _ told c.in_ok-push_passed.ensures
