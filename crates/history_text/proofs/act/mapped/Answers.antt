use Rattle.std.proofs.Common.{◌∙◌}
use Rattle.history_text.specs.Written.{granule, ipa}
use Rattle.history_text.proofs.RowsMake.{two_found, two_not_found}
use Rattle.history_text.proofs.act.mapped.Goals as goal

pub returns : goal.returns
returns c =
    let found = c.in_ok-granule.ensures.found in
    rw (c.granule_of.ensures, c.ipa_of.ensures, found.0) (two_found granule ipa (λ g i. (g, i)) c.in_ok-granule.field-0 found.1)

pub returns-in_err-granule : goal.returns-in_err-granule
returns-in_err-granule c = c.from_residual.ensures ∙ two_not_found granule ipa (λ g i. (g, i)) c.args.numbers.now c.in_err-granule.ensures.none
