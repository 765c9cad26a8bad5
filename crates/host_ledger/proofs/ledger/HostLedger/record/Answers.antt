use Rattle.host_ledger.proofs.Grown.{can_pages, can_holders, can_vmids, can_follow, memory_fits, kept_grows, view_grows}
use Rattle.host_ledger.proofs.ledger.HostLedger.record.Goals as goal

pub follow_pages-requires-clause-can_follow : goal.follow_pages-requires-clause-can_follow
follow_pages-requires-clause-can_follow c =
    can_pages c.self.inside.builds.items c.self.inside.leases c.self.inside.holders c.self.inside.vmids c.self.inside.aux c.self.inside.capacity
    c.self.inside.history c.args.self.now c.self.view_is c.self.invariant c.args.build c.args.act c.requires.there c.requires.can

pub follow_holders-requires : goal.follow_holders-requires
follow_holders-requires c =
    can_holders c.self.inside.builds.items c.self.inside.leases c.self.inside.holders c.self.inside.vmids c.self.inside.aux c.self.inside.capacity
    c.self.inside.history c.args.self.now c.self.view_is c.self.invariant c.args.build c.args.act c.requires.there c.requires.can

pub follow_vmids-requires : goal.follow_vmids-requires
follow_vmids-requires c =
    can_vmids c.self.inside.builds.items c.self.inside.leases c.self.inside.holders c.self.inside.vmids c.self.inside.aux c.self.inside.capacity
    c.self.inside.history c.args.self.now c.self.view_is c.self.invariant c.args.build c.args.act c.requires.there c.requires.can

pub follow-requires : goal.follow-requires
follow-requires c = can_follow c.self.inside.builds.items c.self.inside.leases c.self.inside.holders c.self.inside.vmids c.self.inside.aux c.self.inside.capacity
    c.self.inside.history c.args.self.now c.self.view_is c.self.invariant c.args.build c.args.act c.requires.there c.requires.can c.number.result
    c.index_mut.result.now c.number.ensures.value c.index_mut.ensures.value

pub append_event-requires : goal.append_event-requires
append_event-requires c =
    memory_fits c.self.inside.builds.items c.self.inside.leases c.self.inside.holders c.self.inside.vmids c.self.inside.aux c.self.inside.capacity
    c.self.inside.history c.args.self.now c.self.view_is c.self.invariant c.args.build c.args.act c.requires.there c.requires.can c.number.result
    c.index_mut.result.now c.number.ensures.value c.index_mut.ensures.value

pub invariant_of-self : goal.invariant_of-self
invariant_of-self c =
    kept_grows c.self.inside.builds.items c.self.inside.leases c.self.inside.holders c.self.inside.vmids c.self.inside.aux c.self.inside.capacity
    c.self.inside.history c.args.self.now c.self.view_is c.self.invariant c.args.build c.args.act c.requires.there c.requires.can c.number.result
    c.index_mut.result.now c.number.ensures.value c.index_mut.ensures.value
    c.follow.new.self c.follow_pages.new.leases c.follow_holders.new.holders c.follow_vmids.new.vmids c.append_event.new.history c.follow.ensures
    c.follow_pages.ensures c.follow_holders.ensures c.follow_vmids.ensures c.append_event.ensures.items c.append_event.ensures.capacity

pub returns : goal.returns
returns c = view_grows c.self.inside.builds.items c.self.inside.leases c.self.inside.holders c.self.inside.vmids c.self.inside.aux c.self.inside.capacity
    c.self.inside.history c.args.self.now c.self.view_is c.self.invariant c.args.build c.args.act c.requires.there c.requires.can c.number.result
    c.index_mut.result.now c.number.ensures.value c.index_mut.ensures.value
    c.follow.new.self c.follow_pages.new.leases c.follow_holders.new.holders c.follow_vmids.new.vmids c.append_event.new.history c.follow.ensures
    c.follow_pages.ensures c.follow_holders.ensures c.follow_vmids.ensures c.append_event.ensures.items c.append_event.ensures.capacity
