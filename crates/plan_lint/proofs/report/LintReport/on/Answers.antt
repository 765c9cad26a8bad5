use Rattle.std.proofs.Common.{◌++◌, string_bytes, ap, ◌∙◌, subst}
use Rattle.plan_lint.specs.Lines.{AppendsFindings, size_text}
use Rattle.plan_lint.specs.Shown.{plain_text}
use Rattle.plan_lint.proofs.ReportLines.{report_by_parts}
use Rattle.plan_lint.proofs.report.LintReport.on.Goals as goal

pub returns : goal.returns
returns c =
    let judged = c.in_ok-judged.judged in
    let empty = string_bytes c.new-text.result in
    let between = string_bytes c.push_findings.new.text in
    let shown = c.in_ok-source.ensures ∙ ap plain_text c.as_bytes.ensures.value in
    report_by_parts c.args.source.now c.args.bytes.now _ judged empty between
    c.in_ok-judged.ensures c.is_some-is_plan.ensures c.new-text.ensures.bytes
    (subst (λ source. AppendsFindings source judged.findings.items empty between) (c.as_str.ensures.value ∙ shown)
    (subst (λ findings. AppendsFindings c.as_str.result.now findings empty between) c.as_slice.ensures.value c.in_ok-push_findings.ensures))
    (c.in_ok-push_size.ensures ∙ ap (λ source. between ++ size_text source judged.size) (c.as_str-2.ensures.value ∙ shown))
