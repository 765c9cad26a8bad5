use Rattle.std.proofs.Common.{take}
use Rattle.std.specs.List.{All}
use Rattle.realm_program.specs.Fitting.{ReportFits}
use Rattle.realm_program.proofs.audit.fit_all.Given as goal

-- the reports checked so far match the history
abbrev pub invariant-loop-report : goal.invariant-loop-report
invariant-loop-report l = All (ReportFits l.history) (take l.report-index l.reports)
