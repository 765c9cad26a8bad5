use Rattle.std.proofs.Common.{◌≡◌, ◌-◌}
use Rattle.rmi_abi.specs.Gic.{is_gicv3_lr}
use Rattle.rmm_model.specs.Command.RecCreate.{all_from}
use Rattle.rmm_granules.proofs.run_page.are_lrs.Given as goal

abbrev pub invariant-loop-k : goal.invariant-loop-k
invariant-loop-k l = all_from (is_gicv3_lr l.num_lrs l.page) l.k (16 - l.k) ≡ all_from (is_gicv3_lr l.num_lrs l.page) 0 16
