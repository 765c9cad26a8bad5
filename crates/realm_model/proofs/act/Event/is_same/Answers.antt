use Rattle.std.proofs.Common.{sym, ◌∙◌}
use Rattle.realm_model.specs.declared.act.Event.{Event}
use Rattle.realm_model.proofs.Same.{number, through, both}
use Rattle.realm_model.proofs.SameAct.{same_act}
use Rattle.realm_model.proofs.act.Event.is_same.Goals as goal

pub returns : goal.returns
returns c =
    let same_event = through (λ (x : Event). (x.build, x.act)) (λ x y same i. record { build = (same i).0; act = (same i).1 }) (both number same_act) in
    let tells = same_event.tells c.args.self.now c.args.event.now in
    (λ is. tells.0 (sym c.eq.ensures ∙ is), λ same. c.eq.ensures ∙ tells.1 same)
