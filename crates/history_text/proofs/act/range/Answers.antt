use Rattle.std.proofs.Common.{◌∙◌}
use Rattle.decimal_text.specs.Written.{u16}
use Rattle.history_text.specs.Written.{ipa}
use Rattle.history_text.proofs.RowsMake.{two_found, two_not_found}
use Rattle.history_text.proofs.act.range.Goals as goal

pub returns : goal.returns
returns c =
    let found = c.in_ok-ipa.ensures.found in
    rw (c.ipa_of.ensures, found.0) (two_found ipa u16 (λ i count. (i, count)) c.in_ok-ipa.field-0 found.1)

pub returns-in_err-ipa : goal.returns-in_err-ipa
returns-in_err-ipa c = c.from_residual.ensures ∙ two_not_found ipa u16 (λ i count. (i, count)) c.args.numbers.now c.in_err-ipa.ensures.none
