use Rattle.std.proofs.Common.{ℕ, sym, ap, ◌∙◌, arith}
use Rattle.rmm_model.specs.Granule.{is_delegated}
use Rattle.rmm_model.specs.Machine.{granule_at}
use Rattle.rmm_granules.proofs.Delegated.{are_delegated-on, are_delegated-not, are_delegated-end}
use Rattle.rmm_granules.proofs.realm_params.are_delegated.Goals as goal

pub returns-then-not-is_delegated : goal.returns-then-not-is_delegated
returns-then-not-is_delegated g c =
    sym (are_delegated-not c.args.granules.now c.args.first c.args.count c.loop-k.k c.loop-k-test.true
    (ap (λ (n : ℕ). is_delegated (granule_at c.args.granules.now n).state) (sym c.granule_after.ensures) ∙ sym c.is_delegated.ensures ∙ c.if-not-is_delegated.true))
    ∙ c.loop-k.invariant

pub loop-k-preserved : goal.loop-k-preserved
loop-k-preserved g c =
    sym (are_delegated-on c.args.granules.now c.args.first c.args.count c.loop-k.k c.loop-k-test.true
    (ap (λ (n : ℕ). is_delegated (granule_at c.args.granules.now n).state) (sym c.granule_after.ensures) ∙ sym c.is_delegated.ensures ∙ c.if-not-is_delegated.false))
    ∙ c.loop-k.invariant

pub returns : goal.returns
returns g c = sym (are_delegated-end c.args.granules.now c.args.first c.args.count c.loop-k.k (omega arith)) ∙ c.loop-k.invariant
