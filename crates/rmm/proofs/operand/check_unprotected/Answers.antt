use Rattle.std.proofs.Common.{◌^◌, not, nat_lt, sym, ◌∙◌}
use Rattle.std.proofs.lemmas.Bool.{and_parts, ltb-true}
use Rattle.rmm_model.specs.Realm.{is_protected}
use Rattle.rmm_granules.proofs.Widths.{space_fits}
use Rattle.rmm.proofs.operand.check_unprotected.Goals as goal

pub returns-clause-in_space : goal.returns-clause-in_space
returns-clause-in_space c =
    let realm = c.args.realm.now in
    let parts = and_parts (not (is_protected realm c.args.ipa)) (nat_lt c.args.ipa (2 ^ realm.s2sz)) (sym c.is_unprotected.ensures ∙ c.if-not-is_unprotected.false) in
    ltb-true c.args.ipa (2 ^ realm.s2sz) parts.1

pub returns-clause-low : goal.returns-clause-low
returns-clause-low c =
    let realm = c.args.realm.now in
    let parts = and_parts (not (is_protected realm c.args.ipa)) (nat_lt c.args.ipa (2 ^ realm.s2sz)) (sym c.is_unprotected.ensures ∙ c.if-not-is_unprotected.false) in
    space_fits realm.s2sz c.args.ipa c.requires (ltb-true c.args.ipa (2 ^ realm.s2sz) parts.1)
