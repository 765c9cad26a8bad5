use Rattle.std.proofs.Common.{◌∙◌}
use Rattle.history_text.specs.Written.{order, granule}
use Rattle.history_text.proofs.RowsMake.{two_found, two_not_found}
use Rattle.history_text.proofs.act.block.Goals as goal

pub returns : goal.returns
returns c =
    let found = c.in_ok-order.ensures.found in
    rw (c.order_of.ensures, c.granule_of.ensures, found.0) (two_found order granule (λ o first. (o, first)) c.in_ok-order.field-0 found.1)

pub returns-in_err-order : goal.returns-in_err-order
returns-in_err-order c = c.from_residual.ensures ∙ two_not_found order granule (λ o first. (o, first)) c.args.numbers.now c.in_err-order.ensures.none
