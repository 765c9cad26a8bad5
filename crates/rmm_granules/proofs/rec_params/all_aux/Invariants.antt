use Rattle.std.proofs.Common.{◌≡◌, ◌-◌}
use Rattle.rmm_model.specs.Command.RecCreate.{all_from}
use Rattle.rmm_granules.specs.Tests.{aux_test}
use Rattle.rmm_granules.proofs.rec_params.all_aux.Given as goal

abbrev pub invariant-loop-k : goal.invariant-loop-k
invariant-loop-k g l =
    all_from (aux_test l.granules l.test l.page) l.k (l.count - l.k) ≡ all_from (aux_test l.granules l.test l.page) 0 l.count
