-- The conditions on a build's part of the world that hold after any history: on its cells, its realm, and the realm's
-- rows.
use Rattle.std.specs.Prelude.{◌≡◌, ℕ, ◌%◌, ◌<◌, true, Some, None, is_some}
use Rattle.std.specs.FinMap.{get}
use Rattle.granule_addr.specs.Ipa.{is_width}
use Rattle.granule_addr.specs.Root.{start_count}
use Rattle.realm_model.specs.declared.states.GranuleState.{GranuleState}
use Rattle.realm_model.specs.Machine.{RecRow, RealmRow, Cell, cell_at}
use Rattle.realm_model.specs.World.{World, part_of}
use Rattle.realm_model.specs.Sound.{mapping_at, is_host_state, is_rd_state, IsSoundRows, IsFull, HasEmptyRows}
use Rattle.realm_model.specs.Roles.{Role, target, is_role_state, HasRole}

pub record IsSoundRealm (realm : RealmRow) : Type 0 where
  pub width : is_width realm.root.width ≡ true
  pub aligned : realm.root.first % start_count realm.root.width ≡ 0
  pub rows : IsSoundRows realm.root.width (mapping_at realm.rows)
  pub full : IsFull realm.root.width (mapping_at realm.rows)
  pub recs : (number : ℕ) (rec : RecRow) → get realm.recs number ≡ Some rec → number < realm.next
  pub empty : HasEmptyRows realm.root.width realm.rows

-- The conditions on a granule's cell, in a part in which only `rd` can be an RD. An RD belongs to its own realm and has
-- a realm's row, which is sound. No other granule has a realm's row, and an UNDELEGATED or DELEGATED granule belongs to
-- no realm.
pub record IsSoundCell (rd granule : ℕ) (cell : Cell) : Type 0 where
  pub realm : is_host_state cell.state ≡ true → cell.realm ≡ None
  pub descriptor : is_some cell.descriptor ≡ is_rd_state cell.state
  pub alone : is_rd_state cell.state ≡ true → granule ≡ rd
  pub itself : is_rd_state cell.state ≡ true → cell.realm ≡ Some granule
  pub row : (realm : RealmRow) → cell.descriptor ≡ Some realm → IsSoundRealm realm

pub record IsSoundPart (world : World) : Type 0 where
  pub rd : ℕ
  pub cells : (granule : ℕ) → IsSoundCell rd granule (cell_at world.machine granule)

-- the build's part of the world satisfies `IsSoundPart`
abbrev pub IsSoundFor : ℕ → World → Type 0
IsSoundFor build world = IsSoundPart (part_of world build)

-- each granule that a realm names has the state of its role, belongs to the realm, and has no second role; each granule
-- in a role's state is named
pub record IsLinked (cells : ℕ → Cell) : Type 0 where
  pub roles : ℕ → Role
  pub names : (rd : ℕ) (realm : RealmRow) → (cells rd).descriptor ≡ Some realm → (role : Role) (to : ℕ × GranuleState) → target realm role ≡ Some to
      → ((cells to.0).state ≡ to.1) × ((cells to.0).realm ≡ Some rd) × (roles to.0 ≡ role)
  pub named : (granule : ℕ) → is_role_state (cells granule).state ≡ true → HasRole cells granule

-- `IsLinked` holds of the cells in the part of the build
abbrev pub IsLinkedFor : ℕ → World → Type 0
IsLinkedFor build world = IsLinked (λ granule. cell_at (part_of world build).machine granule)
