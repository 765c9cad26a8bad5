use Rattle.std.proofs.Common.{◌≤◌, ◌*◌, vec_capacity, arith}
use Rattle.host_ledger.proofs.Empty.{kept_empty, view_is_booted}
use Rattle.host_ledger.proofs.ledger.HostLedger.build.Goals as goal

pub invariant_of-result : goal.invariant_of-result
invariant_of-result c =
    let memory : c.args.builds * c.args.capacity ≤ vec_capacity c.in_ok-history.history = omega (arith, c.in_ok-history.ensures.exact) in
    kept_empty c.args.pages c.args.vmids c.args.aux c.args.builds c.args.capacity c.in_ok-kept.kept.items c.in_ok-leases.leases c.in_ok-holders.holders c.new.result c.in_ok-history.history
    c.in_ok-kept.ensures c.in_ok-leases.ensures c.in_ok-holders.ensures c.new.ensures.range c.new.ensures.none c.in_ok-history.ensures.items
    c.requires.few_builds c.requires.few_pages c.requires.few_events memory

pub returns : goal.returns
returns c = view_is_booted c.args.pages c.args.vmids c.args.aux c.args.builds c.args.capacity c.in_ok-kept.kept.items c.in_ok-leases.leases c.in_ok-holders.holders c.new.result c.in_ok-history.history
    c.in_ok-kept.ensures c.in_ok-leases.ensures c.in_ok-holders.ensures c.new.ensures.range c.new.ensures.none c.in_ok-history.ensures.items
