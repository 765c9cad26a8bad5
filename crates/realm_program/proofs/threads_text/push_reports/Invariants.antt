use Rattle.std.proofs.Common.{◌≡◌, ◌++◌, take, string_bytes}
use Rattle.std.specs.List.{flat_map}
use Rattle.realm_plan.specs.PlanView.{plan_view}
use Rattle.realm_program.specs.Text.{report_lines}
use Rattle.realm_program.proofs.threads_text.push_reports.Given as goal

-- the text ends with the lines of the reports so far
abbrev pub invariant-loop-report : goal.invariant-loop-report
invariant-loop-report l = string_bytes l.text ≡ string_bytes l.fn.text ++ flat_map (report_lines (plan_view l.plan)) (take l.report-index l.reports)
