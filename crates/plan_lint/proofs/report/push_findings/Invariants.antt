use Rattle.std.proofs.Common.{string_bytes, take}
use Rattle.plan_lint.specs.Lines.{AppendsFindings}
use Rattle.plan_lint.proofs.report.push_findings.Given as goal

abbrev pub invariant-loop-finding : goal.invariant-loop-finding
invariant-loop-finding l = AppendsFindings l.source (take l.finding-index l.findings) (string_bytes l.fn.text) (string_bytes l.text)
