-- Proofs that all reports match a history if and only if `WorkerFits` holds for each worker that left a report. The
-- text of the reports is the text of the workers.
use Rattle.std.proofs.Common.{◌≡◌, ℕ, ◌++◌, List, [], ◌∷◌, refl, sym, subst, ap₂}
use Rattle.std.specs.Global.{Vec}
use Rattle.std.specs.List.{AllZip, flat_map}
use Rattle.std.proofs.lemmas.List.Elements.{All-nil, All-cons, All-head, All-tail}
use Rattle.std.specs.Prelude.{All}
use Rattle.host_commands.specs.declared.cmd.Step.{Step}
use Rattle.builders.specs.Workers.{WorkerView}
use Rattle.realm_program.specs.Report.{report_text}
use Rattle.realm_model.specs.declared.act.Event.{Event}
use Rattle.realm_plan.specs.Plan.{Plan}
use Rattle.realm_program.specs.Fitting.{DoesFit, ReportFits}
use Rattle.build_seats.specs.declared.report.Report.{Report}
use Rattle.build_seats.specs.declared.report.ReportLine.{ReportLine}
use Rattle.realm_program.specs.Text.{steps_of_build, report_lines}
use Rattle.realm_program.specs.Workers.{IsReportOf, WorkerFits, worker_text}

-- ---- one

fits_one : (history : List Event) (worker : WorkerView) (report : Report × Vec Step) → IsReportOf worker report → ReportFits history report → WorkerFits history worker
fits_one history worker (report, asks) is fits =
    subst (λ (b : ℕ). DoesFit b worker.steps worker.lines history) is.0
    (subst (λ (ls : List ReportLine). DoesFit report.build worker.steps ls history) is.1
    (subst (λ (ss : List Step). DoesFit report.build ss report.lines.items history) is.2 fits))

fits_back : (history : List Event) (worker : WorkerView) (report : Report × Vec Step) → IsReportOf worker report → WorkerFits history worker → ReportFits history report
fits_back history worker (report, asks) is fits =
    subst (λ (b : ℕ). DoesFit b asks.items report.lines.items history) (sym is.0)
    (subst (λ (ls : List ReportLine). DoesFit worker.seat.build asks.items ls history) (sym is.1)
    (subst (λ (ss : List Step). DoesFit worker.seat.build ss worker.lines history) (sym is.2) fits))

text_one : (plan : Plan) (worker : WorkerView) (report : Report × Vec Step) → IsReportOf worker report → report_lines plan report ≡ worker_text plan worker
text_one plan worker (report, asks) is = ap₂ (λ (b : ℕ) (ls : List ReportLine). report_text b (steps_of_build plan b) ls) is.0 is.1

-- ---- all

pub workers_fit : (history : List Event) (workers : List WorkerView) (reports : List (Report × Vec Step)) → AllZip IsReportOf workers reports
    → All (ReportFits history) reports → All (WorkerFits history) workers
workers_fit history [] reports zip fit = All-nil (WorkerFits history)
workers_fit history (w ∷ ws) [] zip fit = absurd zip
workers_fit history (w ∷ ws) (r ∷ rs) zip fit =
    All-cons (WorkerFits history) w ws (fits_one history w r zip.0 (All-head (ReportFits history) r rs fit)) (workers_fit history ws rs zip.1 (All-tail (ReportFits history) r rs fit))

pub reports_fit : (history : List Event) (workers : List WorkerView) (reports : List (Report × Vec Step)) → AllZip IsReportOf workers reports
    → All (WorkerFits history) workers → All (ReportFits history) reports
reports_fit history [] [] zip fit = All-nil (ReportFits history)
reports_fit history [] (r ∷ rs) zip fit = absurd zip
reports_fit history (w ∷ ws) [] zip fit = absurd zip
reports_fit history (w ∷ ws) (r ∷ rs) zip fit =
    All-cons (ReportFits history) r rs (fits_back history w r zip.0 (All-head (WorkerFits history) w ws fit)) (reports_fit history ws rs zip.1 (All-tail (WorkerFits history) w ws fit))

pub text_of_workers : (plan : Plan) (workers : List WorkerView) (reports : List (Report × Vec Step)) → AllZip IsReportOf workers reports
    → flat_map (report_lines plan) reports ≡ flat_map (worker_text plan) workers
text_of_workers plan [] [] zip = refl
text_of_workers plan [] (r ∷ rs) zip = absurd zip
text_of_workers plan (w ∷ ws) [] zip = absurd zip
text_of_workers plan (w ∷ ws) (r ∷ rs) zip = ap₂ (λ (a b : List ℕ). a ++ b) (text_one plan w r zip.0) (text_of_workers plan ws rs zip.1)
