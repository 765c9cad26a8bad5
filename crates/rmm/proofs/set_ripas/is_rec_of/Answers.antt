use Rattle.std.proofs.Common.{ℕ, Option, Some, ap, ◌∙◌}
use Rattle.rmm_model.specs.Machine.{granule_at, number_of}
use Rattle.rmm_model.specs.Command.PsciComplete.{is_same_owner}
use Rattle.rmm.proofs.set_ripas.is_rec_of.Goals as goal

pub returns : goal.returns
returns g c =
    let m = c.args.granules.now in
    c.is_same_owner.ensures
    ∙ ap (λ (who : Option ℕ). is_same_owner who (Some c.args.owner.now.granule)) (c.owner.ensures ∙ ap (λ (n : ℕ). (granule_at m n).owner) c.requires.asking)
    ∙ ap (λ (n : ℕ). is_same_owner (granule_at m (number_of m c.args.rec)).owner (Some n)) c.requires.owner
