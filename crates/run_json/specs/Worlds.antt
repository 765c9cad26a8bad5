-- The JSON object of the host's state, with all granules, and the pages, open operations and realm of each build.
use Rattle.std.specs.Prelude.{◌≡◌, ℕ, List, [], ◌∷◌, length, Option, Some, None}
use Rattle.std.specs.List.{flat_map, range_with_len, AllZip}
use Rattle.realm_model.specs.World.{free_set}
use Rattle.realm_model.specs.declared.act.Act.{Act}
use Rattle.host_ledger.specs.View.{HostView, world_of, pages_of_build, open_of}
use Rattle.run_json.specs.Items.{page_item, realm_item, IsRecItem, build_kept}
use Rattle.run_json.specs.Rows.{AreRowsOf}
use Rattle.run_json.specs.Turns.{more_granules}
use Rattle.run_json.specs.declared.items.GranuleItem.{GranuleItem}
use Rattle.run_json.specs.declared.items.PageItem.{PageItem}
use Rattle.run_json.specs.declared.items.RecItem.{RecItem}
use Rattle.run_json.specs.declared.realm.RealmItem.{RealmItem}
use Rattle.run_json.specs.declared.world.EventLine.{EventLine}
use Rattle.run_json.specs.declared.world.RealmContents.{RealmContents}
use Rattle.run_json.specs.declared.world.BuildItem.{BuildItem}
use Rattle.run_json.specs.declared.world.WorldItem.{WorldItem}

-- the items of all granules of the machine
abbrev pub all_granules : HostView → List (Option GranuleItem)
all_granules host = more_granules host 0 host.limits.pages

-- the items of the first `count` pages of a build
abbrev pub page_items : HostView → ℕ → ℕ → List (Option PageItem)
page_items host build count = flat_map (λ page. page_item host build page ∷ []) (range_with_len 0 count)

-- one item for each operation of a list, with the operation as an event of the build
abbrev pub open_lines : ℕ → List Act → List EventLine
open_lines build acts = flat_map (λ act. record { 0 = record { build = build; act = act } } ∷ []) acts

-- the items describe the RECs with numbers below `next`, in ascending order
abbrev pub AreRecItems : HostView → ℕ → ℕ → List RecItem → Type 0
AreRecItems host build next items = AllZip (IsRecItem host build) (range_with_len 0 next) items

-- the item describes the realm, with all of its rows and RECs, or is None if there is no realm
abbrev pub IsRealmWith : HostView → ℕ → Option RealmItem → Option RealmContents → Type 0
IsRealmWith host build None item = item ≡ None
IsRealmWith host build (Some realm) None = ⊥
IsRealmWith host build (Some realm) (Some item) =
    (item.realm ≡ realm) × AreRowsOf (world_of host) build item.rows.items × AreRecItems host build realm.next_rec item.recs.items

abbrev pub IsRealmContents : HostView → ℕ → Option RealmContents → Type 0
IsRealmContents host build item = IsRealmWith host build (realm_item host build) item

-- the item has the build's number, mark, abort flag, open operations, pages and realm
pub record IsBuildItem (host : HostView) (build : ℕ) (item : BuildItem) : Type 0 where
  pub build_is : item.build ≡ build
  pub kept_is : item.kept ≡ build_kept host build
  pub open_are : item.open.items ≡ open_lines build (open_of host build)
  pub pages_are : item.pages.items ≡ page_items host build (length (pages_of_build host build))
  pub realm_is : IsRealmContents host build item.realm

-- the items describe the first `count` builds, in ascending order
abbrev pub AreBuildItems : HostView → ℕ → List BuildItem → Type 0
AreBuildItems host count items = AllZip (IsBuildItem host) (range_with_len 0 count) items

-- the item has the number of free granules, all granules of the machine, and all builds of the host
pub record IsWorldItem (host : HostView) (item : WorldItem) : Type 0 where
  pub free_is : item.free ≡ length (free_set (world_of host))
  pub granules_are : item.granules.items ≡ all_granules host
  pub builds_are : AreBuildItems host host.limits.builds item.builds.items
