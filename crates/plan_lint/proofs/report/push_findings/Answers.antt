use Rattle.std.proofs.Common.{◌∷◌, [], ◌++◌, take, string_bytes, ap, sym, ◌∙◌, subst}
use Rattle.std.proofs.lemmas.List.{take_more}
use Rattle.plan_lint.specs.Lines.{AppendsFindings}
use Rattle.plan_lint.proofs.ReportLines.{AppendsFindings-more}
use Rattle.plan_lint.proofs.report.push_findings.Goals as goal

pub loop-finding-preserved : goal.loop-finding-preserved
loop-finding-preserved c =
    let findings = c.args.findings.now in
    let source = c.args.source.now in
    let i = c.loop-finding.finding-index in
    let finding = c.finding-item.result in
    subst (λ them. AppendsFindings source them (string_bytes c.args.text.now) (string_bytes c.push_finding.new.text))
    (ap (λ f. take i findings ++ f ∷ []) c.finding-item.is ∙ sym (take_more findings i finding c.loop-finding-test.true))
    (AppendsFindings-more source (take i findings) finding _ _ _ c.loop-finding.invariant c.in_ok-push_finding.ensures)
