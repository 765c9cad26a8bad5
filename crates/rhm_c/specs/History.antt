-- The C form of a host's history and of its events.
use Rattle.std.specs.Prelude.{ℕ, ◌^◌, List, length, map, replicate, Option, Some, None, option_map, slice_get}
use Rattle.granule_addr.specs.declared.width.Root.{Root}
use Rattle.realm_model.specs.declared.act.Act.{Act}
use Rattle.realm_model.specs.declared.act.Act.TheVariants.{Take, UnTake, Fill, Peek, Delegate, Undelegate, Realm, UnRealm}
use Rattle.realm_model.specs.declared.act.Act.TheVariants.{Rtt, UnRtt, Ripas, Data, Unknown, UnData, Rec, UnRec, Enter, Exit, Poke}
use Rattle.realm_model.specs.declared.act.Event.{Event}
use Rattle.history_calls.specs.Frame.{Place, address}
use Rattle.host_ledger.specs.View.{HostView}
use Rattle.rhm_c.specs.Action.{padded}
use Rattle.rhm_c.specs.declared.history.RawEvent.{RawEvent}
use Rattle.rhm_c.specs.declared.placed_host.PlacedHost.{PlacedHost}

-- ---- operations

-- an event of a kind, with 0 in all other fields
abbrev pub plain_event : ℕ → RawEvent
plain_event kind = record {
  build = 0;
  kind = kind;
  granule = 0;
  second = 0;
  ipa = 0;
  level = 0;
  count = 0;
  width = 0;
  rec = 0;
  offset = 0;
  value = 0;
  vmid = 0;
  aux = replicate 16 0;
}

abbrev pub on_granule : Place → ℕ → ℕ → RawEvent
on_granule place kind granule = record (plain_event kind) { granule = address place granule }

abbrev pub realm_event : Place → ℕ → ℕ → Root → ℕ → RawEvent
realm_event place kind rd root vmid =
    record (on_granule place kind rd) { second = address place root.first; width = root.width; vmid = vmid }

-- the event that creates or destroys a REC, with the addresses of the REC's auxiliary granules
abbrev pub rec_change : Place → ℕ → ℕ → List ℕ → ℕ → RawEvent
rec_change place kind granule auxiliaries number =
    record (on_granule place kind granule) { rec = number; count = length auxiliaries; aux = padded (map (address place) auxiliaries) }

abbrev pub page_event : Place → Act → RawEvent
page_event place (Take order first) = record (on_granule place 0 first) { count = 2 ^ order }
page_event place (UnTake order first) = record (on_granule place 1 first) { count = 2 ^ order }
page_event place (Fill granule value) = record (on_granule place 2 granule) { value = value }
page_event place (Peek granule offset byte) = record (on_granule place 3 granule) { offset = offset; value = byte }
page_event place (Delegate granule) = on_granule place 4 granule
page_event place (Undelegate granule) = on_granule place 5 granule
page_event place (Realm rd root vmid) = realm_event place 6 rd root vmid
page_event place (UnRealm rd root vmid) = realm_event place 7 rd root vmid
page_event place _ = plain_event 8

abbrev pub table_event : Place → Act → RawEvent
table_event place (Rtt granule ipa level) = record (on_granule place 9 granule) { ipa = ipa; level = level }
table_event place (UnRtt granule ipa level) = record (on_granule place 10 granule) { ipa = ipa; level = level }
table_event place (Ripas ipa count) = record (plain_event 11) { ipa = ipa; count = count }
table_event place (Data granule ipa source) = record (on_granule place 12 granule) { ipa = ipa; second = address place source }
table_event place (Unknown granule ipa) = record (on_granule place 13 granule) { ipa = ipa }
table_event place (UnData granule ipa) = record (on_granule place 14 granule) { ipa = ipa }
table_event place act = page_event place act

-- The C form of an operation, as an event in which the build is not set yet. An Activate has the kind 8.
abbrev pub act_event : Place → Act → RawEvent
act_event place (Rec granule auxiliaries number) = rec_change place 15 granule auxiliaries.items number
act_event place (UnRec granule auxiliaries number) = rec_change place 16 granule auxiliaries.items number
act_event place (Enter number) = record (plain_event 17) { rec = number }
act_event place (Exit number) = record (plain_event 18) { rec = number }
act_event place (Poke number ipa offset value) = record (plain_event 19) { rec = number; ipa = ipa; offset = offset; value = value }
act_event place act = table_event place act

-- ---- events

-- the C form of an event
abbrev pub raw_event : Place → Event → RawEvent
raw_event place event = record (act_event place event.act) { build = event.build }

-- the C form of the event at an index of the host's history, if there is one
abbrev pub event_reading : ℕ → Place → HostView → Option RawEvent
event_reading number place host = option_map (raw_event place) (slice_get host.history number)

abbrev pub event_count : Option PlacedHost → ℕ
event_count (Some placed) = length placed.host.history
event_count None = 0
