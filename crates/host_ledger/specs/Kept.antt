-- The records that a host keeps in addition to its history, the operations that can be recorded, and the invariant that
-- ties the records to the history.
use Rattle.std.specs.Prelude.{◌≡◌, ℕ, nat_lt, ◌+◌, ◌-◌, ◌*◌, ◌^◌, ◌<◌, ◌≤◌, true, false, ◌&&◌, List, [], ◌∷◌, ◌++◌, map, take, Option, Some, None, length, slice_get, vec_capacity}
use Rattle.std.specs.List.{All}
use Rattle.std.specs.Global.{Vec}
use Rattle.granule_addr.specs.Vmids.{is_used}
use Rattle.build_journal.specs.Stacks.{Stacks, stack_of}
use Rattle.build_journal.specs.Vmids.{Vmids}
use Rattle.realm_model.specs.declared.act.Act.{Act}
use Rattle.realm_model.specs.declared.act.Act.TheVariants.{Take, UnTake, Realm, UnRealm, Rec, UnRec, Enter, Exit}
use Rattle.realm_model.specs.declared.act.Event.{Event}
use Rattle.realm_model.specs.Act.{block, is_paired}
use Rattle.realm_model.specs.World.{World, realm_of}
use Rattle.realm_model.specs.Step.{step}
use Rattle.realm_model.specs.History.{acts_of, open_entries, pages_of, IsInTurn, IsLegal}
use Rattle.realm_model.specs.Marks.{IsValidMark}
use Rattle.realm_model.specs.Running.{running_count}
use Rattle.realm_model.specs.Room.{room_taken}
use Rattle.realm_model.specs.Stack.{pushed}
use Rattle.realm_model.specs.Undoing.{by}
use Rattle.realm_model.specs.Places.{rd_of}
use Rattle.realm_model.specs.RecsOpen.{recs_open}
use Rattle.realm_model.specs.VmidsUsed.{is_vmid_used}
use Rattle.host_ledger.specs.declared.build.Build.{Build}
use Rattle.host_ledger.specs.declared.mark.Mark.{Mark}
use Rattle.host_ledger.specs.Marks.{point_of, mark_while}
use Rattle.host_ledger.specs.Recs.{IsAbove}
use Rattle.host_ledger.specs.View.{HostView, world_of, open_of, used, is_aborting, mark_of}

-- the record of a build that has no events
abbrev pub new_build : Build
new_build = record { journal = []; events = 0; realm = None; recs = []; running = 0; aborting = false; mark = None }

-- ---- after an operation of the build

-- the RD of the build's realm after an operation, or `None` if the build has no realm after the operation
abbrev pub rd_after : Option ℕ → Act → Option ℕ
rd_after rd (Realm d root vmid) = Some d
rd_after rd (UnRealm d root vmid) = None
rd_after rd _ = rd

-- the list of the build's RECs after an operation: a created REC is appended, and a destroyed REC is removed from the
-- end
abbrev pub recs_after : List (ℕ × ℕ) → Act → List (ℕ × ℕ)
recs_after recs (Rec granule auxiliaries number) = recs ++ (number, granule) ∷ []
recs_after recs (UnRec granule auxiliaries number) = take (length recs - 1) recs
recs_after recs _ = recs

-- how many of the build's RECs run after an operation
abbrev pub running_after : ℕ → Act → ℕ
running_after running (Enter number) = running + 1
running_after running (Exit number) = running - 1
running_after running _ = running

-- the build's pages after an operation: a taken block appends its pages, and a returned block removes as many pages
-- from the end
abbrev pub pages_after : List ℕ → Act → List ℕ
pages_after pages (Take order first) = pages ++ block order first
pages_after pages (UnTake order first) = take (length pages - 2 ^ order) pages
pages_after pages _ = pages

-- The record of a build, with its abort flag and its mark adjusted to the operations that are still open. The flag is
-- cleared if nothing is open. The mark is dropped if fewer operations are open than at the mark.
abbrev pub points_after : Build → Build
points_after build = record build {
  aborting = build.aborting && nat_lt 0 (length build.journal);
  mark = mark_while (length build.journal) build.mark;
}

abbrev pub build_after : Build → Act → Build
build_after build act = points_after (record build {
  journal = pushed build.journal act;
  events = build.events + 1;
  realm = rd_after build.realm act;
  recs = recs_after build.recs act;
  running = running_after build.running act;
})

-- ---- the operations that can be followed

-- if the operation creates a REC, the build has fewer than 512 RECs, all with lower numbers; if the operation is an
-- exit, some REC runs
abbrev pub CanFollowRec : Build → Act → Type 0
CanFollowRec build (Rec granule auxiliaries number) = (length build.recs < 512) × IsAbove build.recs number
CanFollowRec build (Exit number) = 1 ≤ build.running
CanFollowRec build _ = Unit {0}

-- the build's record can be updated: after the operation at most 512 operations are open, the counts are within bounds,
-- and `CanFollowRec` holds
pub record CanFollow (build : Build) (act : Act) : Type 0 where
  pub entries : length (pushed build.journal act) ≤ 512
  pub events : build.events < 16384
  pub running : build.running ≤ 16384
  pub rec : CanFollowRec build act

-- A taken block leaves the build with at most `leases.room` pages, and the block's granules are below 4096. A returned
-- block has no more pages than the build.
abbrev pub CanFollowPages : Stacks → ℕ → Act → Type 0
CanFollowPages leases build (Take order first) = (length (stack_of leases build) + 2 ^ order ≤ leases.room) × (first + 2 ^ order ≤ 4096)
CanFollowPages leases build (UnTake order first) = 2 ^ order ≤ length (stack_of leases build)
CanFollowPages leases build _ = Unit {0}

-- if the operation takes or gives back a block, the block is inside the machine
abbrev pub CanFollowHolders : List (Option ℕ) → Act → Type 0
CanFollowHolders leases (Take order first) = first + 2 ^ order ≤ length leases
CanFollowHolders leases (UnTake order first) = first + 2 ^ order ≤ length leases
CanFollowHolders leases _ = Unit {0}

-- ---- the operations that can be recorded

-- An operation of a build can be recorded: its event keeps the history legal. The build has the room that the operation
-- takes, if it takes any. If the operation has a reverse, the build can have one more operation open.
pub record CanRecord (host : HostView) (build : ℕ) (act : Act) : Type 0 where
  pub turn : IsInTurn host.history (by build act)
  pub next : World
  pub stepped : step host.limits (world_of host) (by build act) ≡ Some next
  pub room : 0 < room_taken act → used host build + room_taken act ≤ host.capacity
  pub few_open : is_paired act ≡ true → length (open_of host build) < 512

-- ---- the invariant

-- the view of a host, from its records of builds, leases, VMIDs and events
abbrev pub ledger_of : List Build → Stacks → Vmids → ℕ → ℕ → List Event → HostView
ledger_of builds leases vmids aux capacity history = record {
  limits = record { pages = leases.room; vmids = vmids.vmids; aux = aux; builds = length builds };
  capacity = capacity;
  history = history;
  aborting = map (λ (build : Build). build.aborting) builds;
  marks = map (λ (build : Build). build.mark) builds;
}

-- The record of a build agrees with the build's events in the history and with its realm in the world.
pub record IsBuildOf (history : List Event) (world : World) (number : ℕ) (build : Build) : Type 0 where
  pub journal : build.journal ≡ open_entries number history
  pub events : build.events ≡ length (acts_of number history)
  pub realm : build.realm ≡ rd_of number world
  pub recs : build.recs ≡ recs_open number history
  pub running : build.running ≡ running_count (realm_of number world)

-- The build has used no more than its room, and has never had more than 512 operations open.
pub record HasRoom (host : HostView) (build : ℕ) : Type 0 where
  pub used : used host build ≤ host.capacity
  pub few_open : (n : ℕ) → length (open_entries build (take n host.history)) ≤ 512

-- A mark belongs to the given build, and is valid in the host's history. Since the mark was set, the build has never
-- had fewer operations open than at the mark.
pub record IsMarkOf (host : HostView) (build : ℕ) (mark : Mark) : Type 0 where
  pub of_build : mark.build ≡ build
  pub stands : IsValidMark (point_of mark) host.history

-- The host has one abort flag and one optional mark for each build.
pub record AreOfEach (host : HostView) : Type 0 where
  pub aborts : length host.aborting ≡ host.limits.builds
  pub marks : length host.marks ≡ host.limits.builds

-- A build has something open if it is in abort, and its mark is valid if it has one.
pub record PointsHold (host : HostView) (build : ℕ) : Type 0 where
  pub in_abort : is_aborting host build ≡ true → 0 < length (open_of host build)
  pub marked : (mark : Mark) → mark_of host build ≡ Some mark → IsMarkOf host build mark

-- The history is legal, and the record of each build agrees with the build's events and its realm. Each granule is held
-- by the build that leases it, and a VMID is in use exactly when a realm has it. Memory is allocated for as many events
-- as the builds' rooms allow. A build in abort has something open, and marks are valid.
pub record IsKept (host : HostView) (builds : List Build) (leases : Stacks) (holders : List (Option ℕ)) (vmids : Vmids) (events : Vec Event) : Type 0 where
  pub legal : IsLegal host.limits host.history
  pub few_builds : host.limits.builds ≤ 8
  pub few_pages : host.limits.pages ≤ 4096
  pub few_events : host.capacity ≤ 16384
  pub as_many_stacks : length leases.stacks ≡ host.limits.builds
  pub builds_are : (number : ℕ) (build : Build) → slice_get builds number ≡ Some build → IsBuildOf host.history (world_of host) number build
  pub stacks_are : (number : ℕ) → number < host.limits.builds → stack_of leases number ≡ pages_of number host.history
  pub holders_are : holders ≡ (world_of host).leases
  pub vmids_are : (vmid : ℕ) → is_used vmids.used vmid ≡ is_vmid_used (world_of host).machine vmid
  pub room : (number : ℕ) → number < host.limits.builds → HasRoom host number
  pub points : (number : ℕ) → number < host.limits.builds → PointsHold host number
  pub of_builds : All (λ event. event.build < host.limits.builds) host.history
  pub memory : host.limits.builds * host.capacity ≤ vec_capacity events
