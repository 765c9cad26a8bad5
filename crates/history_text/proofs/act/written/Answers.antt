use Rattle.std.proofs.Common.{[], ◌∷◌, ◌∙◌, arith}
use Rattle.decimal_text.specs.Written.{u8, u16}
use Rattle.history_text.specs.Written.{offset, ipa}
use Rattle.history_text.proofs.RowsMake.{first_low, second_low, third_low, fourth_low, four_found, four_not_found}
use Rattle.history_text.proofs.act.written.Goals as goal

pub returns : goal.returns
returns c =
    let found = c.in_ok-number.ensures.found in
    rw (c.new.ensures, c.ipa_of.ensures, c.offset_of.ensures, found.0) (four_found u16 ipa offset u8 (λ number i o value. (number, i, o, value)) c.in_ok-number.field-0 found.1)

pub returns-in_err-number : goal.returns-in_err-number
returns-in_err-number c = c.from_residual.ensures ∙ four_not_found u16 ipa offset u8 (λ number i o value. (number, i, o, value)) c.args.numbers.now c.in_err-number.ensures.none

pub overflow_cast-number : goal.overflow_cast-number
overflow_cast-number c =
    let low = first_low c.in_ok-number.field-0 u16 (ipa ∷ offset ∷ u8 ∷ []) c.in_ok-number.ensures.found.1 in
    omega arith

pub ipa_of-requires : goal.ipa_of-requires
ipa_of-requires c =
    let low = second_low c.in_ok-number.field-0 u16 ipa (offset ∷ u8 ∷ []) c.in_ok-number.ensures.found.1 in
    omega arith

pub offset_of-requires : goal.offset_of-requires
offset_of-requires c =
    let low = third_low c.in_ok-number.field-0 u16 ipa offset (u8 ∷ []) c.in_ok-number.ensures.found.1 in
    omega arith

pub overflow_cast-result : goal.overflow_cast-result
overflow_cast-result c =
    let low = fourth_low c.in_ok-number.field-0 u16 ipa offset u8 [] c.in_ok-number.ensures.found.1 in
    omega arith
