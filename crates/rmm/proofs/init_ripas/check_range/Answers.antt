use Rattle.std.proofs.Common.{◌-◌, ◌^◌, sym, ◌∙◌}
use Rattle.std.proofs.lemmas.Bool.{ltb-true}
use Rattle.rmm_granules.proofs.Widths.{space_fits, half_fits}
use Rattle.rmm.proofs.init_ripas.check_range.Goals as goal

pub returns-clause-in_space : goal.returns-clause-in_space
returns-clause-in_space c =
    let s2sz = c.args.realm.now.s2sz in
    half_fits s2sz c.args.base (ltb-true c.args.base (2 ^ (s2sz - 1)) (sym c.is_protected.ensures ∙ c.if-not-is_protected.false))

pub returns-clause-low : goal.returns-clause-low
returns-clause-low c =
    let s2sz = c.args.realm.now.s2sz in
    space_fits s2sz c.args.base c.requires (half_fits s2sz c.args.base (ltb-true c.args.base (2 ^ (s2sz - 1)) (sym c.is_protected.ensures ∙ c.if-not-is_protected.false)))
