use Rattle.std.proofs.Common.{◌≡◌, IfErr, Err, ap, sym, ◌∙◌, subst}
use Rattle.std.specs.Io.KnownBytes.{prepend_known}
use Rattle.std.proofs.lemmas.Result.{err_from_is_err_and}
use Rattle.host_ledger.specs.View.{HostView}
use Rattle.checked_io.specs.Lines.{IsLine}
use Rattle.view_program.specs.Applied.{IsNoHistoryIn}
use Rattle.view_program.specs.Taking.{AreLinesTaken, AreNotTaken}
use Rattle.view_program.proofs.ApplyEnds.{ahead_none, is_history_in, no_history_in}
use Rattle.view_program.proofs.applying.host_in.Goals as goal

pub returns-in_err-opening-clause-err : goal.returns-in_err-opening-clause-err
returns-in_err-opening-clause-err g c =
    let told = err_from_is_err_and c.from_residual.result c.from_residual.ensures.1 in
    let input = g.R.Read.remaining c.args.input.now.device in
    let ahead : prepend_known c.new-lines.result input ≡ input = ap (λ bytes. prepend_known bytes input) c.new-lines.ensures ∙ ahead_none input in
    subst (λ r. IfErr r (IsNoHistoryIn input)) (sym (told.1 ∙ ap Err told.2))
    (subst (λ known. IsNoHistoryIn known c.in_err-opening.field-0.0) ahead c.in_err-opening.ensures.err)

pub returns-in_err-take_lines-clause-err : goal.returns-in_err-take_lines-clause-err
returns-in_err-take_lines-clause-err g c =
    let told = err_from_is_err_and c.from_residual-in_err-take_lines.result c.from_residual-in_err-take_lines.ensures.1 in
    let input = g.R.Read.remaining c.args.input.now.device in
    let later = prepend_known c.opening_in.new.lines (g.R.Read.remaining c.opening_in.new.input.device) in
    let first = c.opening_in.new.line.items in
    let ahead : prepend_known c.new-lines.result input ≡ input = ap (λ bytes. prepend_known bytes input) c.new-lines.ensures ∙ ahead_none input in
    let line : IsLine input first later = subst (λ known. IsLine known first later) ahead c.in_ok-opening.ensures.line in
    subst (λ r. IfErr r (IsNoHistoryIn input)) (sym (told.1 ∙ ap Err told.2))
    (no_history_in first c.in_ok-opening.opening c.in_ok-opening.ensures.ok input later c.in_err-take_lines.field-0.0 line
    (subst (λ (host : HostView). AreNotTaken later host c.in_err-take_lines.field-0.0) c.in_ok-host.ensures c.in_err-take_lines.ensures.err))

pub returns-clause-ok : goal.returns-clause-ok
returns-clause-ok g c =
    let input = g.R.Read.remaining c.args.input.now.device in
    let later = prepend_known c.opening_in.new.lines (g.R.Read.remaining c.opening_in.new.input.device) in
    let first = c.opening_in.new.line.items in
    let ahead : prepend_known c.new-lines.result input ≡ input = ap (λ bytes. prepend_known bytes input) c.new-lines.ensures ∙ ahead_none input in
    let line : IsLine input first later = subst (λ known. IsLine known first later) ahead c.in_ok-opening.ensures.line in
    is_history_in first c.in_ok-opening.opening c.in_ok-opening.ensures.ok input later c.take_lines.new.host line
    (subst (λ (host : HostView). AreLinesTaken later host c.take_lines.new.host) c.in_ok-host.ensures c.in_ok-take_lines.ensures.ok)
