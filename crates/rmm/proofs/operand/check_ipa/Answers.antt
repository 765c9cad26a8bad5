use Rattle.std.proofs.Common.{◌^◌, sym, ◌∙◌}
use Rattle.std.proofs.lemmas.Bool.{ltb-true}
use Rattle.rmm_granules.proofs.Widths.{space_fits}
use Rattle.rmm.proofs.operand.check_ipa.Goals as goal

pub returns-clause-low : goal.returns-clause-low
returns-clause-low c =
    let s2sz = c.args.realm.now.s2sz in
    space_fits s2sz c.args.ipa c.requires.width (ltb-true c.args.ipa (2 ^ s2sz) (sym c.is_in_space.ensures ∙ c.if-not-is_in_space.false))
