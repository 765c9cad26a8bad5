-- The checks that the host makes before it calls the page store or the RMM, with the values that the checks read.
use Rattle.std.specs.Prelude.{ℕ, ◌-◌, nat_lt, nat_le, List, [], ◌∷◌, ◌++◌, length, map, Bool, true, false, not, is_none, is_some, if◌then◌else◌}
use Rattle.host_commands.specs.Needs.{needs_of}
use Rattle.host_commands.specs.declared.cmd.Cmd.{Cmd}
use Rattle.host_commands.specs.declared.cmd.Cmd.TheVariants.{Take}
use Rattle.host_commands.specs.declared.needs.RealmRequirement.{RealmRequirement}
use Rattle.host_commands.specs.declared.needs.RealmRequirement.TheVariants.{Either, Realm as ARealm, NoRealm as NoneOf}
use Rattle.host_commands.specs.declared.refusal.Refusal.TheVariants.{NoBuild, Aborting, BadOrder, NotLeased, RealmThere, NoRealm, JournalFull, HistoryFull, NoVmid}
use Rattle.host_ledger.specs.View.{HostView, world_of, open_of, pages_of_build, granule_of_page, used, is_aborting}
use Rattle.host_ledger.specs.Vmids.{lowest_vmid}
use Rattle.realm_model.specs.Places.{rd_of}
use Rattle.explain.specs.declared.host_facts.BuildFact.TheVariants as build_fact
use Rattle.explain.specs.declared.host_facts.RoomFact.TheVariants as room_fact
use Rattle.explain.specs.declared.check.Fact.TheVariants as fact
use Rattle.explain.specs.declared.check.Check.{Check}

-- the check that the build exists; a failure gives refusal 1
abbrev pub build_there : HostView → ℕ → Check
build_there host build = record { fact = fact.Build (build_fact.There host.limits.builds); fails = nat_le host.limits.builds build; refusal = NoBuild }

-- the check that the build is not in abort; a failure gives refusal 2
abbrev pub not_aborting : HostView → ℕ → Check
not_aborting host build = record { fact = fact.Build build_fact.NotAborting; fails = is_aborting host build; refusal = Aborting }

abbrev pub checks_of_build : HostView → ℕ → List Check
checks_of_build host build = build_there host build ∷ not_aborting host build ∷ []

-- the check that the order of a Take is at most 9, and none for any other command; a failure gives refusal 3
abbrev pub checks_of_order : Cmd → List Check
checks_of_order (Take order) = record { fact = fact.Build (build_fact.Order order); fails = nat_lt 9 order; refusal = BadOrder } ∷ []
checks_of_order _ = []

-- the check that the build has the page; a failure gives refusal 4
abbrev pub page_there : HostView → ℕ → ℕ → Check
page_there host build page = record {
  fact = fact.Build (build_fact.Page page (granule_of_page host build page) (length (pages_of_build host build)));
  fails = is_none (granule_of_page host build page);
  refusal = NotLeased page;
}

-- the check that the build has no realm, or that it has one, as the command requires; a failure gives refusal 5 or 6
abbrev pub checks_of_realm : HostView → ℕ → RealmRequirement → List Check
checks_of_realm host build Either = []
checks_of_realm host build NoneOf = record { fact = fact.Build (build_fact.NoRealm (rd_of build (world_of host))); fails = is_some (rd_of build (world_of host)); refusal = RealmThere } ∷ []
checks_of_realm host build ARealm = record { fact = fact.Build (build_fact.Realm (rd_of build (world_of host))); fails = not (is_some (rd_of build (world_of host))); refusal = NoRealm } ∷ []

-- if the command's operation has a reverse, the check that the build has fewer than 512 open operations; a failure
-- gives refusal 9
abbrev pub checks_of_journal : HostView → ℕ → Bool → List Check
checks_of_journal host build true = record { fact = fact.Room (room_fact.Journal (length (open_of host build))); fails = nat_le 512 (length (open_of host build)); refusal = JournalFull } ∷ []
checks_of_journal host build false = []

-- the room that a build has left in the history; 0 if there is no such build
abbrev pub room_left : HostView → ℕ → ℕ
room_left host build = if nat_lt build host.limits.builds then host.capacity - used host build else 0

-- the check that the build has enough room left in the history; a failure gives refusal 10
abbrev pub room_check : HostView → ℕ → ℕ → Check
room_check host build needed = record { fact = fact.Room (room_fact.History (room_left host build) needed); fails = nat_lt (room_left host build) needed; refusal = HistoryFull }

-- if the command needs a VMID, the check that one is free; a failure gives refusal 12
abbrev pub checks_of_vmid : HostView → Bool → List Check
checks_of_vmid host true = record { fact = fact.Room (room_fact.Vmid (lowest_vmid host)); fails = not (is_some (lowest_vmid host)); refusal = NoVmid } ∷ []
checks_of_vmid host false = []

-- the host's own checks of a command that names these pages, in ascending order of their refusal numbers
unfoldable pub needs_checks : HostView → ℕ → Cmd → List ℕ → List Check
needs_checks host build cmd pages =
    checks_of_build host build
    ++ (checks_of_order cmd
    ++ (map (page_there host build) pages
    ++ (checks_of_realm host build (needs_of cmd).realm
    ++ (checks_of_journal host build (needs_of cmd).paired
    ++ (room_check host build (needs_of cmd).room ∷ checks_of_vmid host (needs_of cmd).vmid)))))
