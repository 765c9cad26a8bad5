use Rattle.std.proofs.Common.{[], ◌∷◌, None, refl, sym, ◌∙◌, arith}
use Rattle.decimal_text.specs.Written.{u8}
use Rattle.history_text.specs.Written.{granule, width}
use Rattle.history_text.proofs.RowsMake.{first_low, second_low, third_low, fourth_low, realm_found, realm_not_found}
use Rattle.history_text.proofs.act.realm.Goals as goal

pub returns-in_err-rd : goal.returns-in_err-rd
returns-in_err-rd c = c.from_residual.ensures ∙ realm_not_found (λ rd root vmid. (rd, root, vmid)) c.args.numbers.now c.in_err-rd.ensures.none

pub returns-in_err-width : goal.returns-in_err-width
returns-in_err-width c =
    let found = c.in_ok-rd.ensures.found in
    rw (c.from_residual-in_err-width.ensures, found.0)
    (realm_found (λ rd root vmid. (rd, root, vmid)) c.in_ok-rd.field-0 None _ found.1 (sym c.in_err-width.was ∙ c.new.ensures) refl)

pub returns-in_err-vmid : goal.returns-in_err-vmid
returns-in_err-vmid c =
    let found = c.in_ok-rd.ensures.found in
    rw (c.from_residual-in_err-vmid.ensures, found.0)
    (realm_found (λ rd root vmid. (rd, root, vmid)) c.in_ok-rd.field-0 _ None found.1 (sym c.in_ok-width.was ∙ c.new.ensures) (sym c.in_err-vmid.was ∙ c.new-2.ensures))

pub returns : goal.returns
returns c =
    let found = c.in_ok-rd.ensures.found in
    rw (c.granule_of.ensures, c.granule_of-2.ensures, found.0)
    (realm_found (λ rd root vmid. (rd, root, vmid)) c.in_ok-rd.field-0 _ _ found.1 (sym c.in_ok-width.was ∙ c.new.ensures) (sym c.in_ok-vmid.was ∙ c.new-2.ensures))

pub overflow_cast-width : goal.overflow_cast-width
overflow_cast-width c =
    let low = third_low c.in_ok-rd.field-0 granule granule width (u8 ∷ []) c.in_ok-rd.ensures.found.1 in
    omega arith

pub overflow_cast-vmid : goal.overflow_cast-vmid
overflow_cast-vmid c =
    let low = fourth_low c.in_ok-rd.field-0 granule granule width u8 [] c.in_ok-rd.ensures.found.1 in
    omega arith

pub granule_of-requires : goal.granule_of-requires
granule_of-requires c =
    let low = second_low c.in_ok-rd.field-0 granule granule (width ∷ u8 ∷ []) c.in_ok-rd.ensures.found.1 in
    omega arith

pub granule_of-requires-2 : goal.granule_of-requires-2
granule_of-requires-2 c =
    let low = first_low c.in_ok-rd.field-0 granule (granule ∷ width ∷ u8 ∷ []) c.in_ok-rd.ensures.found.1 in
    omega arith
