use Rattle.std.proofs.Common.{◌∙◌}
use Rattle.decimal_text.specs.Written.{u16}
use Rattle.history_text.proofs.RowsMake.{one_found, one_not_found}
use Rattle.history_text.proofs.act.rec_number.Goals as goal

pub returns : goal.returns
returns c =
    let found = c.in_ok-number.ensures.found in
    rw (c.new.ensures, found.0) (one_found u16 (λ number. number) c.in_ok-number.field-0 found.1)

pub returns-in_err-number : goal.returns-in_err-number
returns-in_err-number c = c.from_residual.ensures ∙ one_not_found u16 (λ number. number) c.args.numbers.now c.in_err-number.ensures.none
