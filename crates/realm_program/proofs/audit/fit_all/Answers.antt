use Rattle.std.proofs.Common.{subst, sym, refl}
use Rattle.std.proofs.lemmas.List.Elements.{All-more, All-same}
use Rattle.std.proofs.lemmas.List.{take_all}
use Rattle.realm_program.specs.Fitting.{DoesFit, ReportFits}
use Rattle.realm_program.proofs.audit.fit_all.Goals as goal

pub loop-report-preserved : goal.loop-report-preserved
loop-report-preserved c =
    All-more (ReportFits c.args.history.now) c.args.reports.now c.loop-report.report-index c.loop-report-item.result c.loop-report-test.true c.loop-report.invariant
    (subst (ReportFits c.args.history.now) c.loop-report-item.is
    (subst (λ steps. DoesFit c.loop-report-item.result.0.build steps c.loop-report-item.result.0.lines.items c.args.history.now) c.as_slice.ensures.value
    (c.in_ok-fits.ensures.0 c.if-not-branch.false)))

pub returns : goal.returns
returns c = (
  (λ t. All-same (ReportFits c.args.history.now) c.args.reports.now _ (sym (take_all c.loop-report.report-index c.args.reports.now c.loop-report-test.false)) c.loop-report.invariant),
  (λ all. refl),
)
