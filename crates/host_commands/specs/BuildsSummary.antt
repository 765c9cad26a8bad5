-- The view of a host's builds, with the data that the checks of a command need.
use Rattle.std.specs.Prelude.{◌≡◌, ℕ, List, map, Bool, Option, Some, slice_get}

-- The data that the checks of a command need from a host. For the host: the number of builds, and whether a VMID is
-- free. For each build: whether it is in abort, its pages, whether it has a realm, the number of its open operations,
-- and its room left.
pub record BuildsSummary : Type 0 where
  pub builds : ℕ
  pub aborting : ℕ → Bool
  pub pages : ℕ → List ℕ
  pub realm : ℕ → Bool
  pub opened : ℕ → ℕ
  pub room_left : ℕ → ℕ
  pub vmid : Bool

-- the granule of a build's page, if the build has the page
abbrev pub granule_of_page : BuildsSummary → ℕ → ℕ → Option ℕ
granule_of_page view build page = slice_get (view.pages build) page

-- the build has each of the given pages, and the granules are those of the pages, in sequence
abbrev pub AreGranulesOf : BuildsSummary → ℕ → List ℕ → List ℕ → Type 0
AreGranulesOf view build pages granules = map (granule_of_page view build) pages ≡ map (λ granule. Some granule) granules
