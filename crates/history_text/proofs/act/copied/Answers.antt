use Rattle.std.proofs.Common.{[], ◌∷◌, ◌∙◌, arith}
use Rattle.history_text.specs.Written.{granule, ipa}
use Rattle.history_text.proofs.RowsMake.{first_low, second_low, third_low, three_found, three_not_found}
use Rattle.history_text.proofs.act.copied.Goals as goal

pub returns : goal.returns
returns c =
    let found = c.in_ok-granule.ensures.found in
    rw (c.granule_of.ensures, c.ipa_of.ensures, c.granule_of-2.ensures, found.0) (three_found granule ipa granule (λ g i source. (g, i, source)) c.in_ok-granule.field-0 found.1)

pub returns-in_err-granule : goal.returns-in_err-granule
returns-in_err-granule c = c.from_residual.ensures ∙ three_not_found granule ipa granule (λ g i source. (g, i, source)) c.args.numbers.now c.in_err-granule.ensures.none

pub granule_of-requires : goal.granule_of-requires
granule_of-requires c =
    let low = first_low c.in_ok-granule.field-0 granule (ipa ∷ granule ∷ []) c.in_ok-granule.ensures.found.1 in
    omega arith

pub ipa_of-requires : goal.ipa_of-requires
ipa_of-requires c =
    let low = second_low c.in_ok-granule.field-0 granule ipa (granule ∷ []) c.in_ok-granule.ensures.found.1 in
    omega arith

pub granule_of-requires-2 : goal.granule_of-requires-2
granule_of-requires-2 c =
    let low = third_low c.in_ok-granule.field-0 granule ipa granule [] c.in_ok-granule.ensures.found.1 in
    omega arith
