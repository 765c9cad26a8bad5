use Rattle.std.proofs.Common.{◌≡◌, ◌-◌}
use Rattle.rmm_model.specs.Command.RecCreate.{all_from, is_apart}
use Rattle.rmm_granules.proofs.rec_params.are_aux_apart.Given as goal

abbrev pub invariant-loop-k : goal.invariant-loop-k
invariant-loop-k g l = all_from (is_apart l.rec l.page) l.k (l.count - l.k) ≡ all_from (is_apart l.rec l.page) 0 l.count
