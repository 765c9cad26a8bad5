-- The invariant of every world that a history leads to.
use Rattle.std.specs.Prelude.{◌≡◌, ◌%◌, ◌<◌, ◌≤◌, ℕ, true, Some, None, is_some, length, slice_get}
use Rattle.std.specs.FinMap.{get}
use Rattle.granule_addr.specs.Ipa.{is_width}
use Rattle.granule_addr.specs.Root.{start_count, served_space}
use Rattle.realm_model.specs.declared.states.GranuleState.{GranuleState}
use Rattle.realm_model.specs.Rows.{walk}
use Rattle.realm_model.specs.Machine.{Limits, RecRow, RealmRow, blank, cell_at}
use Rattle.realm_model.specs.World.{World}
use Rattle.realm_model.specs.Sound.{mapping_at, is_host_state, is_rd_state, IsSoundRows, IsFull, HasEmptyRows, IsZeroed}
use Rattle.realm_model.specs.Roles.{Role, target, is_role_state, HasRole}

-- the granule is the RD of this realm
abbrev pub IsRealmAt : World → ℕ → RealmRow → Type 0
IsRealmAt world rd realm = (cell_at world.machine rd).descriptor ≡ Some realm

pub record IsReachable (limits : Limits) (world : World) : Type 0 where
  -- there is a cell and a lease for each granule of the machine
  pub cells : length world.machine ≡ limits.pages
  pub leases : length world.leases ≡ limits.pages
  -- A free granule is blank. An UNDELEGATED or DELEGATED one belongs to no realm. The bytes of a granule are zero in
  -- every state but UNDELEGATED and DATA.
  pub free : (granule : ℕ) → slice_get world.leases granule ≡ Some None → cell_at world.machine granule ≡ blank
  pub host : (granule : ℕ) → is_host_state (cell_at world.machine granule).state ≡ true → (cell_at world.machine granule).realm ≡ None
  pub zero : IsZeroed (λ granule. cell_at world.machine granule)
  -- Each RD granule has a realm, and no other granule has one. The RD belongs to its own realm. A build has at most one
  -- realm.
  pub rds : (granule : ℕ) → is_some (cell_at world.machine granule).descriptor ≡ is_rd_state (cell_at world.machine granule).state
  pub itself : (rd : ℕ) (realm : RealmRow) → IsRealmAt world rd realm → (cell_at world.machine rd).realm ≡ Some rd
  pub one : (g h : ℕ) (realm other : RealmRow) → IsRealmAt world g realm → IsRealmAt world h other
      → slice_get world.leases g ≡ slice_get world.leases h → g ≡ h
  -- Each realm's VMID is in range, and no other realm has it.
  pub vmid : (rd : ℕ) (realm : RealmRow) → IsRealmAt world rd realm → (1 ≤ realm.vmid) × (realm.vmid ≤ limits.vmids)
  pub vmids : (g h : ℕ) (realm other : RealmRow) → IsRealmAt world g realm → IsRealmAt world h other → realm.vmid ≡ other.vmid → g ≡ h
  -- Each realm has a possible IPA width, and the number of its first starting table is a multiple of the number of its
  -- starting tables.
  pub width : (rd : ℕ) (realm : RealmRow) → IsRealmAt world rd realm → is_width realm.root.width ≡ true
  pub aligned : (rd : ℕ) (realm : RealmRow) → IsRealmAt world rd realm → realm.root.first % start_count realm.root.width ≡ 0
  -- Each row leads to a granule or to none, as the row's state requires, and, below level 1, has a TABLE row above it.
  -- No row of a starting table or of another table is missing, so every walk in the realm's address space ends at a
  -- row. Rows of unprotected IPAs are UNASSIGNED and EMPTY, and TABLE rows count as EMPTY. Each REC's number is below
  -- the next.
  pub rows : (rd : ℕ) (realm : RealmRow) → IsRealmAt world rd realm → IsSoundRows realm.root.width (mapping_at realm.rows)
  pub full : (rd : ℕ) (realm : RealmRow) → IsRealmAt world rd realm → IsFull realm.root.width (mapping_at realm.rows)
  pub walks : (rd : ℕ) (realm : RealmRow) → IsRealmAt world rd realm → (ipa level : ℕ) → ipa < served_space realm.root.width → 1 ≤ level → is_some (walk realm.rows ipa level) ≡ true
  pub empty : (rd : ℕ) (realm : RealmRow) → IsRealmAt world rd realm → HasEmptyRows realm.root.width realm.rows
  pub recs : (rd : ℕ) (realm : RealmRow) → IsRealmAt world rd realm → (number : ℕ) (rec : RecRow) → get realm.recs number ≡ Some rec → number < realm.next
  -- Each granule that a realm names is in the state of its role, belongs to the realm, and is leased by the build that
  -- leases the RD. No granule is named in two roles. Each granule in such a state is named by a realm.
  pub names : (rd : ℕ) (realm : RealmRow) → IsRealmAt world rd realm → (role : Role) (granule : ℕ) (state : GranuleState) → target realm role ≡ Some (granule, state)
      → ((cell_at world.machine granule).state ≡ state) × ((cell_at world.machine granule).realm ≡ Some rd)
      × (slice_get world.leases granule ≡ slice_get world.leases rd)
  pub once : (rd : ℕ) (realm : RealmRow) → IsRealmAt world rd realm → (p q : Role) (granule : ℕ) (s t : GranuleState)
      → target realm p ≡ Some (granule, s) → target realm q ≡ Some (granule, t) → p ≡ q
  pub named : (granule : ℕ) → is_role_state (cell_at world.machine granule).state ≡ true → HasRole (λ g. cell_at world.machine g) granule
