use Rattle.std.proofs.Common.{◌∙◌}
use Rattle.decimal_text.specs.Written.{u8}
use Rattle.history_text.specs.Written.{granule, offset}
use Rattle.history_text.proofs.RowsMake.{three_found, three_not_found}
use Rattle.history_text.proofs.act.byte_at.Goals as goal

pub returns : goal.returns
returns c =
    let found = c.in_ok-granule.ensures.found in
    rw (c.granule_of.ensures, c.offset_of.ensures, found.0) (three_found granule offset u8 (λ g o byte. (g, o, byte)) c.in_ok-granule.field-0 found.1)

pub returns-in_err-granule : goal.returns-in_err-granule
returns-in_err-granule c = c.from_residual.ensures ∙ three_not_found granule offset u8 (λ g o byte. (g, o, byte)) c.args.numbers.now c.in_err-granule.ensures.none
