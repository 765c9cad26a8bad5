use Rattle.std.proofs.Common.{◌≡◌, ◌++◌, length, string_bytes}
use Rattle.realm_program.specs.Report.{report_text}
use Rattle.realm_program.proofs.report.push_report.Given as goal

abbrev pub invariant-loop-line : goal.invariant-loop-line
invariant-loop-line l =
    string_bytes l.text ++ report_text l.report.build l.steps l.rest ≡ string_bytes l.fn.text ++ report_text l.report.build l.steps l.fn.report.lines.items

abbrev pub decreases-loop-line : goal.decreases-loop-line
decreases-loop-line l = length l.rest
