use Rattle.std.proofs.Common.{refl, sym, ◌∙◌, subst, inl, inr}
use Rattle.std.specs.Prelude.{All}
use Rattle.std.proofs.lemmas.Bool.{false≢true}
use Rattle.std.proofs.lemmas.Result.{err_from_is_err_and}
use Rattle.realm_program.specs.Fitting.{ReportFits}
use Rattle.realm_program.proofs.threads_text.audited_text_of.Goals as goal

pub returns-in_err-fit_all-clause-err : goal.returns-in_err-fit_all-clause-err
returns-in_err-fit_all-clause-err g c =
    let told = err_from_is_err_and c.from_residual.result c.from_residual.ensures.1 in
    rw told.1 (inl told.2)

pub returns-then-not-branch-clause-err : goal.returns-then-not-branch-clause-err
returns-then-not-branch-clause-err g c =
    inr (refl, λ fit. false≢true (sym c.if-not-branch.true ∙ c.in_ok-fit_all.ensures.1 (subst (λ h. All (ReportFits h) c.args.reports.now) (sym c.history.ensures.events) fit)))

pub returns-in_err-text_of-clause-err : goal.returns-in_err-text_of-clause-err
returns-in_err-text_of-clause-err g c =
    let told = err_from_is_err_and c.from_residual-in_err-text_of.result c.from_residual-in_err-text_of.ensures.1 in
    rw told.1 (inl told.2)

pub returns-clause-fit : goal.returns-clause-fit
returns-clause-fit g c = subst (λ h. All (ReportFits h) c.args.reports.now) c.history.ensures.events (c.in_ok-fit_all.ensures.0 c.if-not-branch.false)
