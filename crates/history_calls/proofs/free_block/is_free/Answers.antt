use Rattle.std.proofs.Common.{◌≡◌, ◌<◌, sym, ◌∙◌, arith}
use Rattle.host_ledger.specs.View.{world_of}
use Rattle.history_calls.proofs.FreeBlocks.{leases_long, leased_read, none_from, none_past}
use Rattle.history_calls.proofs.free_block.is_free.Goals as goal

pub returns-in-Some : goal.returns-in-Some
returns-in-Some g c =
    let same : c.in-Some.granule ≡ c.args.number = grind arith in
    let below : c.args.number < c.args.host.now.limits.pages = grind arith in
    none_from c.holder.result c.is_none.result c.is_none.ensures
    ∙ leased_read c.ledger.result.now c.args.host.now c.in-Some.granule c.args.number c.holder.result c.ledger.ensures same below c.holder.ensures

pub returns-in-None : goal.returns-in-None
returns-in-None g c =
    let long = leases_long c.args.host.now in
    sym (none_past (world_of c.args.host.now).leases c.args.number (grind arith))
