use Rattle.std.proofs.Common.{sym, ◌∙◌}
use Rattle.realm_model.proofs.SameAct.{same_act}
use Rattle.realm_model.proofs.act.Act.is_same.Goals as goal

pub returns : goal.returns
returns c =
    let tells = same_act.tells c.args.self.now c.args.act.now in
    (λ is. tells.0 (sym c.eq.ensures ∙ is), λ same. c.eq.ensures ∙ tells.1 same)
