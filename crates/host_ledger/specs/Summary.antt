-- The view of a host that the checks of a command need.
use Rattle.std.specs.Prelude.{◌-◌, length, false, is_some, slice_index_or}
use Rattle.host_commands.specs.BuildsSummary.{BuildsSummary}
use Rattle.realm_model.specs.Places.{rd_of}
use Rattle.host_ledger.specs.View.{HostView, world_of, open_of, pages_of_build, used}
use Rattle.host_ledger.specs.Vmids.{lowest_vmid}

abbrev pub summary_of : HostView → BuildsSummary
summary_of host = record {
  builds = host.limits.builds;
  aborting = λ build. slice_index_or host.aborting build false;
  pages = λ build. pages_of_build host build;
  realm = λ build. is_some (rd_of build (world_of host));
  opened = λ build. length (open_of host build);
  room_left = λ build. host.capacity - used host build;
  vmid = is_some (lowest_vmid host);
}
