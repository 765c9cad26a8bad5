use Rattle.std.proofs.Common.{◌∙◌}
use Rattle.history_text.specs.Written.{granule}
use Rattle.history_text.proofs.RowsMake.{one_found, one_not_found}
use Rattle.history_text.proofs.act.one_granule.Goals as goal

pub returns : goal.returns
returns c =
    let found = c.in_ok-granule.ensures.found in
    rw (c.granule_of.ensures, found.0) (one_found granule (λ g. g) c.in_ok-granule.field-0 found.1)

pub returns-in_err-granule : goal.returns-in_err-granule
returns-in_err-granule c = c.from_residual.ensures ∙ one_not_found granule (λ g. g) c.args.numbers.now c.in_err-granule.ensures.none
