use Rattle.std.proofs.Common.{◌-◌, ◌∙◌, ap, sym, refl}
use Rattle.std.specs.Prelude.{Some, Ok, Err}
use Rattle.std.proofs.lemmas.Result.{err_from_is_err_and}
use Rattle.build_seats.specs.Exchange.{Undid, KeptMark}
use Rattle.build_seats.specs.Standing.{StandingView}
use Rattle.build_seats.specs.declared.report.Answer.TheVariants.{Marked}
use Rattle.build_seats.proofs.Stretches.{IsExchange-of}
use Rattle.build_seats.proofs.ask.put.Goals as goal

pub returns-in_err-undone-in-Undo-clause-exchange : goal.returns-in_err-undone-in-Undo-clause-exchange
returns-in_err-undone-in-Undo-clause-exchange g c =
    let told = err_from_is_err_and c.from_residual.result c.from_residual.ensures.1 in
    rw (told.1, told.2) (IsExchange-of (Undid (Err c.in_err-undone-in-Undo.field-0.0)) (ap Some (sym c.in-Undo.is)) c.in_err-undone-in-Undo.ensures.told c.take_turn.ensures refl)

pub returns-in_ok-undone-in-Undo-clause-exchange : goal.returns-in_ok-undone-in-Undo-clause-exchange
returns-in_ok-undone-in-Undo-clause-exchange g c =
    IsExchange-of (Undid (Ok c.in_ok-undone-in-Undo.undone)) (ap Some (sym c.in-Undo.is)) c.in_ok-undone-in-Undo.ensures.told
    (c.count_undo.ensures ∙ ap (λ (s : StandingView). record s { journal = s.journal - 1 }) c.take_turn.ensures) refl

pub returns-in_err-mark-in-Mark-clause-exchange : goal.returns-in_err-mark-in-Mark-clause-exchange
returns-in_err-mark-in-Mark-clause-exchange g c =
    let told = err_from_is_err_and c.from_residual-in_err-mark-in-Mark.result c.from_residual-in_err-mark-in-Mark.ensures.1 in
    rw (told.1, told.2) (IsExchange-of (KeptMark (Err c.in_err-mark-in-Mark.field-0.0)) (ap Some (sym c.in-Mark.is)) c.in_err-mark-in-Mark.ensures.told c.take_turn-in-Mark.ensures refl)

pub returns-in_ok-mark-in-Mark-clause-exchange : goal.returns-in_ok-mark-in-Mark-clause-exchange
returns-in_ok-mark-in-Mark-clause-exchange g c =
    IsExchange-of (KeptMark (Ok c.in_ok-mark-in-Mark.mark)) (ap Some (sym c.in-Mark.is)) c.in_ok-mark-in-Mark.ensures.told
    (c.count_mark.ensures ∙ ap (λ (s : StandingView). record s { mark = Some c.in_ok-mark-in-Mark.mark }) c.take_turn-in-Mark.ensures) (ap Marked c.length.ensures)
