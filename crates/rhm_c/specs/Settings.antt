-- The valid ranges of the settings that a C program gives, and the host of a newly opened handle.
use Rattle.std.specs.Prelude.{◌%◌, ◌^◌, ◌==◌, ◌&&◌, Bool, nat_le, nat_lt}
use Rattle.host_ledger.specs.Booted.{booted}
use Rattle.rhm_c.specs.declared.placed_host.PlacedHost.{PlacedHost}
use Rattle.rhm_c.specs.declared.settings.HostSettings.{HostSettings}

-- Each of the given settings is in its range. There are 1 to 4,096 pages, 1 to 255 VMIDs, and at most 16 auxiliary
-- granules of a REC. There are 1 to 8 builds, with capacity for 16 to 16,384 events of each. Granule 0 is at a multiple
-- of 4,096 below 2^46.
abbrev pub are_settings : HostSettings → Bool
are_settings s =
    nat_le 1 s.pages && nat_le s.pages 4096 && nat_le 1 s.vmids && nat_le s.vmids 255 && nat_le s.aux 16
    && nat_le 1 s.builds && nat_le s.builds 8 && nat_le 16 s.history && nat_le s.history 16384
    && s.base % 4096 == 0 && nat_lt s.base (2 ^ 46)

-- The host of a newly opened handle, which has the given settings and an empty history.
abbrev pub opened_host : HostSettings → PlacedHost
opened_host s = record {
  host = booted s.pages s.vmids s.aux s.builds s.history;
  frame = record { base = s.base; pages = s.pages };
}
