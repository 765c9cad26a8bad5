use Rattle.std.proofs.Common.{◌≡◌, false, take}
use Rattle.std.specs.List.{list_any}
use Rattle.realm_model.specs.Running.{is_running}
use Rattle.realm_model.specs.World.{realm_of}
use Rattle.host_ledger.specs.View.{world_of}
use Rattle.realm_host.proofs.host.Host.is_any_running.Given as goal

abbrev pub invariant-loop-act : goal.invariant-loop-act
invariant-loop-act g l = list_any (is_running (realm_of l.build (world_of l.self))) (take l.act-index l.acts) ≡ false
