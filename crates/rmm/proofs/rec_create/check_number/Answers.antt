use Rattle.std.proofs.Common.{◌^◌, sym, ◌∙◌, arith}
use Rattle.std.proofs.Math.Pow.{pow_mono}
use Rattle.std.proofs.lemmas.Bool.{ltb-true}
use Rattle.rmm.proofs.rec_create.check_number.Goals as goal

pub returns-clause-count : goal.returns-clause-count
returns-clause-count c =
    let below = ltb-true c.args.realm.now.rec_count (2 ^ c.args.settings.now.max_recs_order) (sym c.can_have_more.ensures ∙ c.if-not-can_have_more.false) in
    let most = pow_mono c.requires.order in
    omega arith
