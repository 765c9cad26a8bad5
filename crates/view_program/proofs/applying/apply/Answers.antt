use Rattle.std.proofs.Common.{Err, ap, sym, ◌∙◌, subst, string_bytes}
use Rattle.std.specs.Io.KnownBytes.{Appends}
use Rattle.std.proofs.lemmas.Result.{err_from_is_err_and}
use Rattle.checked_io.specs.Whole.{AppendsFront}
use Rattle.view_program.specs.Applied.{host_of_opening}
use Rattle.view_program.specs.Printed.{IsApplyEnd}
use Rattle.view_program.proofs.Takings.{fresh_like-taken}
use Rattle.view_program.proofs.ApplyEnds.{no_history, no_map, cut_map, printed_map, read_well}
use Rattle.view_program.proofs.applying.apply.Goals as goal

pub returns-in_err-opening-clause-end : goal.returns-in_err-opening-clause-end
returns-in_err-opening-clause-end g c =
    let told = err_from_is_err_and c.from_residual.result c.from_residual.ensures.1 in
    let input = g.R.Read.remaining c.args.input.now.device in
    let output = g.W.Write.contents c.args.output.now.device in
    let unread = c.host_in.new.input.failed in
    subst (IsApplyEnd c.args.erase unread input output output) (sym (told.1 ∙ ap Err told.2))
    (no_history c.args.erase unread input output c.in_err-opening.field-0.0 c.in_err-opening.ensures.err (λ is. c.in_err-opening.ensures.told.1 (ap Err is)))

pub asked_map-requires : goal.asked_map-requires
asked_map-requires g c =
    let history = c.in_ok-opening.ensures.ok.history in
    record { size = history.opens.size; machine = fresh_like-taken (host_of_opening c.in_ok-opening.opening) history.events c.in_ok-opening.host history.taken }

pub returns-in_err-text-clause-end : goal.returns-in_err-text-clause-end
returns-in_err-text-clause-end g c =
    let told = err_from_is_err_and c.from_residual-in_err-text.result c.from_residual-in_err-text.ensures.1 in
    let input = g.R.Read.remaining c.args.input.now.device in
    let output = g.W.Write.contents c.args.output.now.device in
    let unread = c.host_in.new.input.failed in
    subst (IsApplyEnd c.args.erase unread input output output) (sym (told.1 ∙ ap Err told.2))
    (no_map c.args.erase unread input output c.in_ok-opening.opening c.in_ok-opening.host c.in_err-text.field-0.0 c.in_ok-opening.ensures.ok c.in_err-text.ensures.err)

pub returns-in_err-write_whole-clause-end : goal.returns-in_err-write_whole-clause-end
returns-in_err-write_whole-clause-end g c =
    let told = err_from_is_err_and c.from_residual-in_err-write_whole.result c.from_residual-in_err-write_whole.ensures.1 in
    let input = g.R.Read.remaining c.args.input.now.device in
    let old = g.W.Write.contents c.args.output.now.device in
    let new = g.W.Write.contents c.write_whole.new.self.device in
    let unread = c.host_in.new.input.failed in
    subst (IsApplyEnd c.args.erase unread input old new) (sym (told.1 ∙ ap Err told.2))
    (cut_map c.args.erase unread input old new c.in_ok-opening.opening c.in_ok-opening.host (string_bytes c.in_ok-text.text) (read_well unread _ c.in_ok-opening.ensures.told)
    c.in_ok-opening.ensures.ok c.in_ok-text.ensures.ok (subst (AppendsFront old new) c.as_bytes.ensures.value c.in_err-write_whole.ensures.err))

pub returns-clause-end : goal.returns-clause-end
returns-clause-end g c =
    let input = g.R.Read.remaining c.args.input.now.device in
    let old = g.W.Write.contents c.args.output.now.device in
    let new = g.W.Write.contents c.write_whole.new.self.device in
    printed_map c.args.erase c.host_in.new.input.failed input old new c.in_ok-opening.opening c.in_ok-opening.host (string_bytes c.in_ok-text.text)
    c.in_ok-opening.ensures.ok c.in_ok-text.ensures.ok (subst (Appends old new) c.as_bytes.ensures.value c.in_ok-write_whole.ensures.ok)
