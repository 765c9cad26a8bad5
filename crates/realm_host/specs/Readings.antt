-- The values that a host's read functions return for granules and for a build's realm. RMM 1.0, Granule, Realm and REC
-- attributes, RTT entry.
use Rattle.std.specs.Prelude.{ℕ, nat_lt, List, length, Option, Some, None, option_map, option_and_then, slice_index_or, if◌then◌else◌}
use Rattle.std.specs.FinMap.{get}
use Rattle.granule_addr.specs.Ipa.{first_covered}
use Rattle.realm_model.specs.declared.states.RealmState.{RealmState}
use Rattle.realm_model.specs.Rows.{Walk}
use Rattle.realm_model.specs.Machine.{RealmRow, RecRow, Seen, cell_at}
use Rattle.realm_model.specs.World.{World, realm_of}
use Rattle.rmi_monitor.specs.Attributes.{RecAttributes}
use Rattle.rmi_monitor.specs.Named.{rec_attributes_of}
use Rattle.rmi_monitor.specs.Walked.{walk_of}
use Rattle.realm_host.specs.declared.reading.GranuleView.{GranuleView}
use Rattle.realm_host.specs.declared.reading.RowView.{RowView}

-- ---- granules

-- a granule's state, the build that leases it, and its realm's RD, if the machine has the granule
abbrev pub granule_at : World → ℕ → Option GranuleView
granule_at world granule = if nat_lt granule (length world.machine) then Some (record {
  state = (cell_at world.machine granule).state;
  build = slice_index_or world.leases granule None;
  realm = (cell_at world.machine granule).realm;
}) else None

-- ---- realms

-- all that the world keeps of a build's realm, if the build has one
abbrev pub row_of : World → ℕ → Option RealmRow
row_of world build = option_and_then (λ (rd : Seen). rd.cell.descriptor) (realm_of build world)

-- the state and the VMID of a build's realm, if the build has one
abbrev pub realm_at : World → ℕ → Option (RealmState × ℕ)
realm_at world build = option_map (λ (realm : RealmRow). (realm.state, realm.vmid)) (row_of world build)

-- the measurement of a build's realm, if the build has one
abbrev pub measurement_at : World → ℕ → Option (List ℕ)
measurement_at world build = option_map (λ (realm : RealmRow). realm.measurement) (row_of world build)

-- the granule and the attributes of the REC with a given number in a build's realm, if there is one
abbrev pub rec_at : World → ℕ → ℕ → Option (ℕ × RecAttributes)
rec_at world build number =
    option_map (λ (rec : RecRow). (rec.granule, rec_attributes_of number rec))
    (option_and_then (λ (realm : RealmRow). get realm.recs number) (row_of world build))

-- ---- rows

-- the row at which a walk ends, with the row's level and the first IPA granule that the row covers
abbrev pub row_view : ℕ → Walk → RowView
row_view ipa end = record { level = end.level; first = first_covered end.level ipa; entry = end.row }

-- the row at which a walk in a build's realm ends, given the IPA granule and the level; none if there is no realm or no
-- such IPA granule
abbrev pub row_at : World → ℕ → ℕ → ℕ → Option RowView
row_at world build ipa level = option_map (row_view ipa) (option_and_then (λ (realm : RealmRow). walk_of realm ipa level) (row_of world build))
