use Rattle.std.proofs.Common.{◌∙◌, ap, refl}
use Rattle.std.specs.Prelude.{Ok, Err}
use Rattle.std.proofs.lemmas.Result.{err_from_is_err_and}
use Rattle.build_seats.specs.Exchange.{Did}
use Rattle.build_seats.specs.Standing.{standing_after_command}
use Rattle.build_seats.proofs.Stretches.{IsExchange-of}
use Rattle.build_seats.proofs.ask.put_command.Goals as goal

pub returns-in_err-reply-clause-exchange : goal.returns-in_err-reply-clause-exchange
returns-in_err-reply-clause-exchange g c =
    let told = err_from_is_err_and c.from_residual.result c.from_residual.ensures.1 in
    rw (told.1, told.2) (IsExchange-of (Did c.args.cmd.now (Err c.in_err-reply.field-0.0)) refl c.in_err-reply.ensures.told c.take_turn.ensures refl)

pub returns-clause-exchange : goal.returns-clause-exchange
returns-clause-exchange g c =
    IsExchange-of (Did c.args.cmd.now (Ok c.in_ok-reply.reply)) refl c.in_ok-reply.ensures.told
    (c.count_command.ensures ∙ ap (standing_after_command c.args.cmd.now) c.take_turn.ensures) refl
