use Rattle.std.proofs.Common.{◌+◌, ◌*◌, ℕ, List, refl, sym, ap, ◌∙◌, add-one}
use Rattle.rmm_model.specs.declared.measure.Extension.TheVariants.{Ripas as RipasExtension}
use Rattle.rmm_model.specs.Measure.{extended}
use Rattle.rmm_model.specs.Command.RttInitRipas.{rim_with_ripas}
use Rattle.rmm.proofs.init_ripas.rim_with_ripas.Goals as goal

pub loop-k-init : goal.loop-k-init
unfolding rim_with_ripas
loop-k-init c = refl

pub loop-k-preserved : goal.loop-k-preserved
unfolding rim_with_ripas
loop-k-preserved c =
    let realm = c.args.realm.now in
    let k : ℕ = c.loop-k.k in
    c.extend-rim.ensures
    ∙ ap (λ (rim : List ℕ). extended realm.hash rim (RipasExtension (c.args.base + k * c.args.size) (c.args.base + (k + 1) * c.args.size))) c.loop-k.invariant
    ∙ ap (rim_with_ripas realm.hash realm.rim c.args.size c.args.base) (sym (add-one k))
