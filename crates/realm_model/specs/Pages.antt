-- The condition that a build's pages are the granules that it leases.
use Rattle.std.specs.Prelude.{◌≡◌, ◌<◌, ◌≤◌, ◌≢◌, ◌↔◌, ℕ, List, Some, length, slice_get}
use Rattle.std.specs.List.{All, AllPairs, Contains}
use Rattle.realm_model.specs.declared.act.Event.{Event}
use Rattle.realm_model.specs.Machine.{Limits}
use Rattle.realm_model.specs.World.{World}
use Rattle.realm_model.specs.History.{pages_of}

-- The pages of a build are the granules that it leases, each once and each inside the machine.
pub record PagesAreLeased (limits : Limits) (history : List Event) (build : ℕ) (world : World) : Type 0 where
  pub leased : (granule : ℕ) → Contains (pages_of build history) granule ↔ (slice_get world.leases granule ≡ Some (Some build))
  pub distinct : AllPairs (λ a b. a ≢ b) (pages_of build history)
  pub inside : All (λ page. page < limits.pages) (pages_of build history)
  pub count : length (pages_of build history) ≤ limits.pages
  pub cells : length world.machine ≡ limits.pages
  pub leases : length world.leases ≡ limits.pages
