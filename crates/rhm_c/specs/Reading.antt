-- The C form of the values that are read from a host. RMM 1.0, Granule, Realm and REC attributes.
use Rattle.std.specs.Prelude.{◌≡◌, ℕ, nat_le, nat_lt, Bool, length, Option, Some, None, is_some, unwrap_or, option_map, option_and_then, if◌then◌else◌}
use Rattle.realm_model.specs.declared.states.GranuleState.{GranuleState}
use Rattle.realm_model.specs.declared.states.GranuleState.TheVariants.{Undelegated, Delegated, Rd, Rec, RecAux, Data, Rtt}
use Rattle.realm_model.specs.declared.states.RealmState.{RealmState}
use Rattle.realm_model.specs.declared.states.RealmState.TheVariants.{New, Active}
use Rattle.realm_model.specs.declared.states.RecState.{RecState}
use Rattle.realm_model.specs.declared.states.RecState.TheVariants.{Ready, Running}
use Rattle.realm_model.specs.Machine.{RealmRow, cell_at}
use Rattle.realm_model.specs.Places.{rd_of}
use Rattle.realm_model.specs.World.{free_set}
use Rattle.history_calls.specs.Frame.{Place, address}
use Rattle.host_ledger.specs.declared.mark.Mark.{Mark}
use Rattle.host_ledger.specs.View.{HostView, world_of, open_of, pages_of_build, granule_of_page, is_aborting, mark_of}
use Rattle.realm_host.specs.Readings.{row_of, rec_at}
use Rattle.rmi_monitor.specs.Attributes.{RecAttributes}
use Rattle.rhm_c.specs.Command.{build_in}
use Rattle.rhm_c.specs.declared.placed_host.PlacedHost.{PlacedHost}
use Rattle.rhm_c.specs.declared.reading.BuildReading.{BuildReading}
use Rattle.rhm_c.specs.declared.reading.PageReading.{PageReading}
use Rattle.rhm_c.specs.declared.reading.RealmReading.{RealmReading}
use Rattle.rhm_c.specs.declared.reading.RecReading.{RecReading}

-- The new value is what was read, or the old value if nothing was read; the answer says whether anything was read.
pub record IsRead {A : Type 0} (read : Option A) (old : A) (answer : Bool) (new : A) : Type 0 where
  pub is_there : answer ≡ is_some read
  pub value : new ≡ unwrap_or read old

-- what `read` gives for the host of an open handle; none for a closed handle
abbrev pub of_handle : {A : Type 0} → (Place → HostView → Option A) → Option PlacedHost → Option A
of_handle read placed = option_and_then (λ (p : PlacedHost). read p.frame p.host) placed

abbrev pub free_pages : Option PlacedHost → ℕ
free_pages (Some placed) = length (free_set (world_of placed.host))
free_pages None = 0

-- ---- the numbers that C has for states

-- the number that C uses for a granule state
abbrev pub state_number : GranuleState → ℕ
state_number Undelegated = 0
state_number Delegated = 1
state_number Rd = 2
state_number Rec = 3
state_number RecAux = 4
state_number Data = 5
state_number Rtt = 6

abbrev pub realm_state_number : RealmState → ℕ
realm_state_number New = 0
realm_state_number Active = 1

abbrev pub rec_state_number : RecState → ℕ
rec_state_number Ready = 0
rec_state_number Running = 1

-- ---- builds

-- the number that C uses for a flag, 1 if the flag holds and 0 if not
abbrev pub flag : Bool → ℕ
flag holds = if holds then 1 else 0

-- the number of operations that were open at a mark; 0 without a mark
abbrev pub mark_length : Option Mark → ℕ
mark_length (Some mark) = mark.length
mark_length None = 0

abbrev pub build_seen : HostView → ℕ → BuildReading
build_seen host build = record {
  page_count = length (pages_of_build host build);
  open_count = length (open_of host build);
  mark = mark_length (mark_of host build);
  has_mark = flag (is_some (mark_of host build));
  is_aborting = flag (is_aborting host build);
}

-- the state of the build with this number, in C form, if the host has the build
abbrev pub build_reading : ℕ → HostView → Option BuildReading
build_reading build host =
    option_and_then (λ number. if nat_lt number host.limits.builds then Some (build_seen host number) else None) (build_in build)

-- ---- pages

-- the C form of a page, given its granule: the address and the state of the granule
abbrev pub page_seen : Place → HostView → ℕ → PageReading
page_seen place host granule = record {
  address = address place granule;
  state = state_number (cell_at (world_of host).machine granule).state;
}

-- the address and state of a build's page with this number, if the build has that page
abbrev pub page_reading : ℕ → ℕ → Place → HostView → Option PageReading
page_reading build page place host =
    option_and_then (λ number. if nat_le page 0xFFFF then option_map (page_seen place host) (granule_of_page host number page) else None) (build_in build)

-- ---- realms and RECs

-- the C form of the attributes of a realm, given the granule of its RD
abbrev pub realm_seen : Place → ℕ → RealmRow → RealmReading
realm_seen place rd realm = record {
  rd = address place rd;
  tables = address place realm.root.first;
  state = realm_state_number realm.state;
  vmid = realm.vmid;
  width = realm.root.width;
  next_rec = realm.next;
}

-- the attributes of a build's realm, in C form, if the build has a realm
abbrev pub realm_reading : ℕ → Place → HostView → Option RealmReading
realm_reading build place host =
    option_and_then (λ number. option_and_then (λ rd. option_map (realm_seen place rd) (row_of (world_of host) number)) (rd_of number (world_of host))) (build_in build)

abbrev pub rec_seen : Place → ℕ × RecAttributes → RecReading
rec_seen place rec = record { address = address place rec.0; state = rec_state_number rec.1.state }

-- the address and state of the REC with this number in a build's realm, if there is one
abbrev pub rec_reading : ℕ → ℕ → Place → HostView → Option RecReading
rec_reading build number place host =
    option_and_then (λ of. if nat_le number 0xFFFF then option_map (rec_seen place) (rec_at (world_of host) of number) else None) (build_in build)
