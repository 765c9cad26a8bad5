use Rattle.std.proofs.Common.{◌-◌, ◌^◌, sym, ◌∙◌}
use Rattle.std.proofs.lemmas.Bool.{ltb-true}
use Rattle.rmm_granules.proofs.Widths.{half_fits}
use Rattle.rmm.proofs.step.fetched.Goals as goal

pub walk-found-requires-clause-in_space : goal.walk-found-requires-clause-in_space
walk-found-requires-clause-in_space g c =
    let s2sz = c.args.realm.now.s2sz in
    half_fits s2sz c.args.ipa (ltb-true c.args.ipa (2 ^ (s2sz - 1)) (sym c.is_protected.ensures ∙ c.if-not-is_protected.false))
