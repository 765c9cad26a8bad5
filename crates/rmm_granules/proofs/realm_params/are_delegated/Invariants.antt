use Rattle.std.proofs.Common.{◌≡◌, ◌+◌, ◌-◌}
use Rattle.rmm_model.specs.Command.RealmCreate.{are_delegated}
use Rattle.rmm_granules.proofs.realm_params.are_delegated.Given as goal

abbrev pub invariant-loop-k : goal.invariant-loop-k
invariant-loop-k g l =
    are_delegated l.granules (l.first + l.k) (l.count - l.k) ≡ are_delegated l.granules l.first l.count
