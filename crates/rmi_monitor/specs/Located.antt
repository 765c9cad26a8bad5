-- The condition that a lookup gives the realm's translation tables and the protected IPA granule that a command uses.
use Rattle.std.specs.Prelude.{◌≡◌, ℕ, true, false, Some}
use Rattle.granule_addr.specs.Ipa.{is_protected_at}
use Rattle.realm_model.specs.Machine.{Machine, RealmRow, cell_at}
use Rattle.realm_model.specs.Command.Check.{is_new, is_protected}
use Rattle.rmi_monitor.specs.Attributes.{RealmAttributes}
use Rattle.rtt.specs.declared.tables.Tables.{Tables}

-- `at` has the RD and the starting tables of the realm, and the IPA granule `ipa`, which is protected in the realm
pub record IsLocated (realm : RealmAttributes) (rd ipa : ℕ) (at : Tables × ℕ) : Type 0 where
  pub tables : at.0 ≡ record { rd = rd; root = realm.root }
  pub same : at.1 ≡ ipa
  pub protected : is_protected_at ipa realm.root.width ≡ true

-- `at` has the tables of the realm whose RD is granule `rd` of the machine, and the IPA granule, which is protected in
-- that realm
pub record Locates (machine : Machine) (rd ipa : ℕ) (at : Tables × ℕ) : Type 0 where
  pub row : RealmRow
  pub there : (cell_at machine rd).descriptor ≡ Some row
  pub tables : at.0 ≡ record { rd = rd; root = row.root }
  pub same : at.1 ≡ ipa
  pub protected : is_protected row ipa ≡ true

-- `Locates` holds for `at`, and the realm is NEW
pub record LocatesNew (machine : Machine) (rd ipa : ℕ) (at : Tables × ℕ) : Type 0 where
  pub place : Locates machine rd ipa at
  pub is_fresh : is_new place.row.state ≡ true

-- granule `rd` is not an RD, or the IPA granule is not protected in the realm with this RD
abbrev pub IsNowhere : Machine → ℕ → ℕ → Type 0
IsNowhere machine rd ipa = (row : RealmRow) → (cell_at machine rd).descriptor ≡ Some row → is_protected row ipa ≡ false
