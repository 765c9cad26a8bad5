use Rattle.std.proofs.Common.{refl, sym, ap, ◌∙◌, add-one}
use Rattle.rmm_model.specs.Machine.{Machine}
use Rattle.rmm_model.specs.Command.Auxiliary.{with_wiped_if, aux_granule, with_aux}
use Rattle.rmm.proofs.auxiliary.set_aux.Goals as goal

pub loop-k-init : goal.loop-k-init
unfolding with_aux
loop-k-init g c = record { made = refl; count = refl }

pub loop-k-preserved : goal.loop-k-preserved
unfolding with_aux
loop-k-preserved g c =
    let kept = c.args.kept.now in
    record {
      made = c.set_aux_granule.ensures.one
          ∙ ap (λ (old : Machine). with_wiped_if old (aux_granule old c.args.rec c.loop-k.k) kept) c.loop-k.invariant.made
          ∙ ap (with_aux c.args.granules.now c.args.rec kept) (sym (add-one c.loop-k.k));
      count = c.set_aux_granule.ensures.count ∙ c.loop-k.invariant.count;
    }
