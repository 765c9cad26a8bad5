-- The check that an aligned block of a given order is free, with the values that the check reads.
use Rattle.std.specs.Prelude.{ℕ, ◌%◌, ◌^◌, ◌==◌, nat_lt, ◌&&◌, Bool, not, length, is_none, slice_index_or, None}
use Rattle.std.specs.List.{list_all, list_any, range_with_len}
use Rattle.host_commands.specs.declared.refusal.Refusal.TheVariants.{NoBlock}
use Rattle.realm_model.specs.World.{free_set}
use Rattle.host_ledger.specs.View.{HostView, world_of}
use Rattle.explain.specs.declared.host_facts.RoomFact.TheVariants as room_fact
use Rattle.explain.specs.declared.check.Fact.TheVariants as fact
use Rattle.explain.specs.declared.check.Check.{Check}

-- the granule is in the machine, and no build leases it
abbrev pub is_unleased : HostView → ℕ → Bool
is_unleased host granule = nat_lt granule host.limits.pages && is_none (slice_index_or (world_of host).leases granule None)

abbrev pub are_unleased : HostView → ℕ → ℕ → Bool
are_unleased host first count = list_all (is_unleased host) (range_with_len first count)

-- an aligned block of this order begins at this granule, and is free
abbrev pub is_free_at : HostView → ℕ → ℕ → Bool
is_free_at host order first = first % 2 ^ order == 0 && are_unleased host first (2 ^ order)

-- some aligned block of this order is free
abbrev pub has_block : HostView → ℕ → Bool
has_block host order = list_any (is_free_at host order) (range_with_len 0 host.limits.pages)

abbrev pub block_check : HostView → ℕ → Check
block_check host order = record {
  fact = fact.Room (room_fact.Block order (length (free_set (world_of host))));
  fails = not (has_block host order);
  refusal = NoBlock order;
}
