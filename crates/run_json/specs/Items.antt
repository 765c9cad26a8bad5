-- The JSON objects of granules, translation table rows, RECs, pages and realms, with the values that the host has.
use Rattle.std.specs.Prelude.{◌≡◌, ℕ, List, sum, Option, Some, None, option_map}
use Rattle.realm_model.specs.Machine.{cell_at}
use Rattle.realm_model.specs.Places.{rd_of}
use Rattle.realm_model.specs.declared.states.RecState.{RecState}
use Rattle.rmi_monitor.specs.Attributes.{RealmAttributes, RecAttributes}
use Rattle.rmi_monitor.specs.View.{attributes_of}
use Rattle.host_ledger.specs.View.{HostView, world_of, granule_of_page, is_aborting, mark_of}
use Rattle.host_ledger.specs.declared.mark.Mark.{Mark}
use Rattle.realm_host.specs.Readings.{granule_at, rec_at, row_at, row_of}
use Rattle.realm_host.specs.declared.reading.GranuleView.{GranuleView}
use Rattle.realm_host.specs.declared.reading.RowView.{RowView}
use Rattle.run_json.specs.declared.items.GranuleItem.{GranuleItem}
use Rattle.run_json.specs.declared.items.RowItem.{RowItem}
use Rattle.run_json.specs.declared.items.RecItem.{RecItem}
use Rattle.run_json.specs.declared.items.RecView.{RecView}
use Rattle.run_json.specs.declared.items.PageItem.{PageItem}
use Rattle.run_json.specs.declared.kept.BuildKept.{BuildKept}
use Rattle.run_json.specs.declared.realm.RealmItem.{RealmItem}

-- the item of the granule with this number, if the machine has such a granule
abbrev pub granule_item : HostView → ℕ → Option GranuleItem
granule_item host granule = option_map (λ (view : GranuleView). record { granule = granule; view = view }) (granule_at (world_of host) granule)

-- the item of `count` rows that begin with the row at the end of an IPA granule's walk towards a level; None if there
-- is no such row
abbrev pub row_item : HostView → ℕ → ℕ → ℕ → ℕ → Option RowItem
row_item host build ipa level count = option_map (λ (row : RowView). record { row = row; count = count }) (row_at (world_of host) build ipa level)

-- a REC's granule, state and auxiliary granules, as the document has them
abbrev pub rec_told : RecView → ℕ × RecState × List ℕ
rec_told rec = (rec.granule, rec.state, rec.auxiliaries.items)

-- a REC's granule, state and auxiliary granules, as the host reads them
abbrev pub rec_read : ℕ × RecAttributes → ℕ × RecState × List ℕ
rec_read rec = (rec.0, rec.1.state, rec.1.auxiliaries)

-- the item describes the REC with this number, or says that there is no such REC
pub record IsRecItem (host : HostView) (build number : ℕ) (item : RecItem) : Type 0 where
  pub number_is : item.number ≡ number
  pub rec_is : option_map rec_told item.rec ≡ option_map rec_read (rec_at (world_of host) build number)

-- the item of a page, made of the page's granule and the sum of its bytes, if both are given
abbrev pub page_with : Option ℕ → Option ℕ → Option PageItem
page_with (Some granule) (Some total) = Some (record { granule = granule; sum = total })
page_with _ _ = None

abbrev pub page_item : HostView → ℕ → ℕ → Option PageItem
page_item host build page =
    page_with (granule_of_page host build page) (option_map (λ g. sum (cell_at (world_of host).machine g).bytes) (granule_of_page host build page))

-- the item of a realm, made of the realm's RD and attributes, if both are given. RMM 1.0, Realm attributes
abbrev pub realm_with : Option ℕ → Option RealmAttributes → Option RealmItem
realm_with (Some rd) (Some realm) =
    Some (record { rd = rd; state = realm.state; vmid = realm.vmid; root = realm.root; next_rec = realm.next; measurement = realm.measurement })
realm_with _ _ = None

abbrev pub realm_item : HostView → ℕ → Option RealmItem
realm_item host build = realm_with (rd_of build (world_of host)) (option_map attributes_of (row_of (world_of host) build))

-- a build's mark, and whether the build is in abort
abbrev pub build_kept : HostView → ℕ → BuildKept
build_kept host build = record { mark = option_map (λ (m : Mark). m.length) (mark_of host build); aborting = is_aborting host build }
