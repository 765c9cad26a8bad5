use Rattle.std.proofs.Common.{ℕ, List, Err, ap, sym, ◌∙◌, subst}
use Rattle.std.specs.Io.KnownBytes.{Appends}
use Rattle.std.proofs.lemmas.Result.{err_from_is_err_and}
use Rattle.checked_io.specs.Whole.{AppendsFront}
use Rattle.checked_io.proofs.Read.{keeps_same}
use Rattle.plan_lint.specs.Texts.{IsReport}
use Rattle.view_program.specs.Checked.{IsVerdictOn, IsCheckEnd}
use Rattle.view_program.proofs.CheckEnds.{report_from_kept, verdict_from_kept, unreported, cut_report, bytes_read_well}
use Rattle.view_program.proofs.checking.check.Goals as goal

pub returns-in_err-bytes-clause-end : goal.returns-in_err-bytes-clause-end
returns-in_err-bytes-clause-end g c =
    let told = err_from_is_err_and c.from_residual.result c.from_residual.ensures.1 in
    let input = g.R.Read.remaining c.args.input.now.device in
    let output = g.W.Write.contents c.args.output.now.device in
    let unread = c.read_whole.new.input.failed in
    subst (IsCheckEnd c.args.source.now unread input output output) (sym (told.1 ∙ ap Err told.2))
    (unreported c.args.source.now unread input output c.in_err-bytes.field-0.0 (λ is. c.in_err-bytes.ensures.told.1 (ap Err is)))

pub returns-in_err-report-clause-end : goal.returns-in_err-report-clause-end
returns-in_err-report-clause-end g c =
    let told = err_from_is_err_and c.from_residual-in_err-report.result c.from_residual-in_err-report.ensures.1 in
    let input = g.R.Read.remaining c.args.input.now.device in
    let output = g.W.Write.contents c.args.output.now.device in
    let unread = c.read_whole.new.input.failed in
    subst (IsCheckEnd c.args.source.now unread input output output) (sym (told.1 ∙ ap Err told.2)) (keeps_same output)

pub returns-in_err-write_whole-clause-end : goal.returns-in_err-write_whole-clause-end
returns-in_err-write_whole-clause-end g c =
    let told = err_from_is_err_and c.from_residual-in_err-write_whole.result c.from_residual-in_err-write_whole.ensures.1 in
    let input = g.R.Read.remaining c.args.input.now.device in
    let old = g.W.Write.contents c.args.output.now.device in
    let new = g.W.Write.contents c.write_whole.new.self.device in
    let unread = c.read_whole.new.input.failed in
    let report = c.in_ok-report.report in
    let is = subst (λ (bytes : List ℕ). IsReport c.args.source.now bytes report) c.deref.ensures.value c.in_ok-report.ensures in
    subst (IsCheckEnd c.args.source.now unread input old new) (sym (told.1 ∙ ap Err told.2))
    (cut_report c.args.source.now unread input old new report (bytes_read_well unread c.in_ok-bytes.bytes c.in_ok-bytes.ensures.told)
    (report_from_kept c.args.source.now input c.in_ok-bytes.bytes.items report c.in_ok-bytes.ensures.bytes is) (subst (AppendsFront old new) c.as_bytes.ensures.value c.in_err-write_whole.ensures.err))

pub returns-clause-end : goal.returns-clause-end
returns-clause-end g c =
    let input = g.R.Read.remaining c.args.input.now.device in
    let old = g.W.Write.contents c.args.output.now.device in
    let new = g.W.Write.contents c.write_whole.new.self.device in
    let report = c.in_ok-report.report in
    let is = subst (λ (bytes : List ℕ). IsReport c.args.source.now bytes report) c.deref.ensures.value c.in_ok-report.ensures in
    let kept = c.in_ok-bytes.ensures.bytes in
    record {
      report = report;
      of_input = report_from_kept c.args.source.now input c.in_ok-bytes.bytes.items report kept is;
      written = subst (Appends old new) c.as_bytes.ensures.value c.in_ok-write_whole.ensures.ok;
      verdict_is = subst (IsVerdictOn input) (sym c.verdict_of.ensures) (verdict_from_kept c.args.source.now input c.in_ok-bytes.bytes.items report kept is);
    }
