use Rattle.std.proofs.Common.{Some, sym, ap}
use Rattle.std.specs.List.{list_all}
use Rattle.realm_model.specs.World.{is_leased_to}
use Rattle.host_ledger.specs.View.{world_of}
use Rattle.realm_host.proofs.There.{none_named}
use Rattle.realm_host.proofs.host.Host.leases_named.Goals as goal

pub returns-in_default : goal.returns-in_default
returns-in_default g c =
    ap (list_all (is_leased_to (Some c.args.build) (world_of c.args.self.now).leases))
    (sym (none_named c.args.act.now c.requires.forward c.requires.command c.in_default.not-Peek c.in_default.not-Realm c.in_default.not-Rec
    c.in_default.not-Fill c.in_default.not-Delegate c.in_default.not-Rtt c.in_default.not-Data c.in_default.not-Unknown))
