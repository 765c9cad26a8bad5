-- The text of a worker's report, and the last line of a threaded run's output, `audit ok`.
use Rattle.std.specs.Prelude.{ℕ, List, [], codes, slice_index_or}
use Rattle.std.specs.Global.{Vec}
use Rattle.host_commands.specs.declared.cmd.Step.{Step}
use Rattle.realm_plan.specs.declared.step.PlanStep.{PlanStep}
use Rattle.realm_program.specs.Report.{report_text}
use Rattle.realm_plan.specs.Plan.{Plan}
use Rattle.build_seats.specs.declared.report.Report.{Report}

-- the steps that a plan has for a build; none if the plan does not have the build
abbrev pub steps_of_build : Plan → ℕ → List PlanStep
steps_of_build plan build = slice_index_or plan.builds build []

-- the text of a report, with each step as it is in the plan
abbrev pub report_lines : Plan → Report × Vec Step → List ℕ
report_lines plan (report, asks) = report_text report.build (steps_of_build plan report.build) report.lines.items

-- The last line of a threaded run's output, which says that the reports match the events of the history, one by one.
abbrev pub audit_line : List ℕ
audit_line = codes "audit ok\n"
