use Rattle.std.proofs.Common.{◌∙◌}
use Rattle.decimal_text.specs.Written.{u8}
use Rattle.history_text.specs.Written.{granule}
use Rattle.history_text.proofs.RowsMake.{two_found, two_not_found}
use Rattle.history_text.proofs.act.filled.Goals as goal

pub returns : goal.returns
returns c =
    let found = c.in_ok-granule.ensures.found in
    rw (c.granule_of.ensures, found.0) (two_found granule u8 (λ g value. (g, value)) c.in_ok-granule.field-0 found.1)

pub returns-in_err-granule : goal.returns-in_err-granule
returns-in_err-granule c = c.from_residual.ensures ∙ two_not_found granule u8 (λ g value. (g, value)) c.args.numbers.now c.in_err-granule.ensures.none
