-- The report on bytes that are checked as a plan: its text, and whether the bytes are a plan.
use Rattle.std.specs.Prelude.{◌≡◌, ℕ, List, ◌++◌, is_ok, string_bytes}
use Rattle.realm_plan.specs.Plan.{plan_of}
use Rattle.plan_lint.specs.Findings.{AreFindings, size_in}
use Rattle.plan_lint.specs.Lines.{AreFindingTexts, size_text}
use Rattle.plan_lint.specs.Shown.{plain_text}
use Rattle.plan_lint.specs.declared.finding.Finding.{Finding}
use Rattle.plan_lint.specs.declared.report.LintReport.{LintReport}

-- The report states correctly whether the bytes are a plan; the text shows findings on the bytes, and then the plan's
-- size if the bytes are a plan. Beyond `AreFindings`, the choice of the findings is only tested, and so are their
-- positions.
pub record IsReport (source bytes : List ℕ) (report : LintReport) : Type 0 where
  pub is_plan : report.is_plan ≡ is_ok (plan_of bytes)
  pub findings : List Finding
  pub of_bytes : AreFindings bytes findings
  pub lines : List ℕ
  pub of_findings : AreFindingTexts (plain_text source) findings lines
  pub whole : string_bytes report.text ≡ lines ++ size_text (plain_text source) (size_in (plan_of bytes))
