-- A proof that the replay of a host's legal history gives the host's world.
use Rattle.std.proofs.Common.{◌≡◌, Option, Some, None, refl, ap}
use Rattle.std.specs.Prelude.{unwrap_or, IsSome}
use Rattle.realm_model.specs.World.{World, opening}
use Rattle.realm_model.specs.History.{replay, IsLegal}
use Rattle.host_ledger.specs.View.{HostView, world_of}

-- a legal history leads to the world of its host
pub world_is : (host : HostView) → IsLegal host.limits host.history → replay host.limits host.history ≡ Some (world_of host)
unfolding world_of
world_is host legal = there (replay host.limits host.history) legal.steps
  where
    there : (o : Option World) → IsSome o → o ≡ Some (unwrap_or o (opening host.limits))
    there None h = cc
    there (Some w) h = refl

-- if the replay of a host's history gives a world, it is the world of the host
pub world_of-replay : (host : HostView) (world : World) → replay host.limits host.history ≡ Some world → world_of host ≡ world
unfolding world_of
world_of-replay host world e = ap (λ o. unwrap_or o (opening host.limits)) e
