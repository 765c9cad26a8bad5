use Rattle.std.proofs.Common.{◌≡◌, ◌+◌, ◌<◌, false, Some, sym, subst, arith}
use Rattle.granule_addr.specs.Root.{start_count}
use Rattle.realm_model.specs.World.{is_leased_to}
use Rattle.rmi_monitor.proofs.Starting.{all_start, one_does_not}
use Rattle.host_ledger.specs.View.{world_of}
use Rattle.realm_host.proofs.host.Host.leases_tables.Goals as goal

pub returns-then-not-leases_number : goal.returns-then-not-leases_number
returns-then-not-leases_number g c =
    let few : c.loop-number.number < start_count c.args.root.width = subst (λ n. c.loop-number.number < n) c.start_count-number-end.ensures.value c.loop-number-test.true in
    sym (one_does_not (is_leased_to (Some c.args.build) (world_of c.args.self.now).leases) c.args.root c.loop-number.number few
    (sym (subst (λ first. false ≡ is_leased_to (Some c.args.build) (world_of c.args.self.now).leases (first + c.loop-number.number)) c.number.ensures.value c.if-not-leases_number.ensures)))

pub returns : goal.returns
returns g c =
    sym (all_start (is_leased_to (Some c.args.build) (world_of c.args.self.now).leases) c.args.root (λ number few.
    let some : number < c.start_count-number-end.result = subst (λ n. number < n) (sym c.start_count-number-end.ensures.value) few in
    let end = c.loop-number-test.false in
    c.loop-number.invariant number (omega (arith, some, end))))
