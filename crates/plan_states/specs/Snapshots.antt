-- Snapshots of a run, which show each build's progress, marks, abort flag and events. Two snapshots agree if they are
-- equal for each build.
use Rattle.std.specs.Prelude.{◌≡◌, ◌<◌, ◌≤◌, ℕ, Bool, false, List, length, Option, Some, None, option_map, slice_get}
use Rattle.host_ledger.specs.Kept.{AreOfEach}
use Rattle.host_ledger.specs.Marks.{is_same_mark}
use Rattle.host_ledger.specs.View.{mark_of, is_aborting}
use Rattle.host_ledger.specs.declared.mark.Mark.{Mark}
use Rattle.plan_replay.specs.Run.{Position, place_of}
use Rattle.realm_model.specs.declared.act.Event.{Event}
use Rattle.realm_model.specs.History.{events_of, IsLegal}
use Rattle.schedule_graph.specs.State.{has_way_back}
use Rattle.plan_states.specs.declared.snapshot.BuildPoint.{BuildPoint}
use Rattle.plan_states.specs.declared.snapshot.BuildSnapshot.{BuildSnapshot}

-- the number of operations that were open at a mark, if there is a mark
abbrev pub length_of : Option Mark → Option ℕ
length_of mark = option_map (λ (it : Mark). it.length) mark

-- there is a mark, and the host keeps the same mark
abbrev pub is_kept_mark : Option Mark → Option Mark → Bool
is_kept_mark kept mark =
    elim mark [ Some one ↦ elim kept [ Some it ↦ is_same_mark it one | None ↦ false ] | None ↦ false ]

-- a build's progress, marks and abort flag at a position
abbrev pub point_at : Position → ℕ → BuildPoint
point_at at build = record {
  done = (place_of at.places build).done;
  left = (place_of at.places build).left;
  mark = length_of (place_of at.places build).mark;
  has_way_back = has_way_back at build;
  is_aborting = is_aborting at.host build;
  kept = length_of (mark_of at.host build);
}

-- What a snapshot shows of a build: its progress, marks and abort flag, and its events.
pub record SeenBuild : Type 0 where
  pub point : BuildPoint
  pub events : List Event

abbrev pub shown_build : BuildSnapshot → SeenBuild
shown_build it = record { point = it.point; events = it.events.items }

abbrev pub seen_at : Position → ℕ → SeenBuild
seen_at at build = record { point = point_at at build; events = events_of build at.host.history }

-- the snapshots show each build below `count` as it is at the position
abbrev pub AreBuildsAt : Position → ℕ → List BuildSnapshot → Type 0
AreBuildsAt at count builds = (build : ℕ) → build < count → option_map shown_build (slice_get builds build) ≡ Some (seen_at at build)

-- in both snapshots, each build below `count` has the same progress, marks, abort flag and events
abbrev pub AreSameBuilds : ℕ → List BuildSnapshot → List BuildSnapshot → Type 0
AreSameBuilds count ones others =
    (build : ℕ) → build < count → option_map shown_build (slice_get ones build) ≡ option_map shown_build (slice_get others build)

-- The position has a cursor for each of eight builds, and a host with a legal history and at most eight builds.
pub record IsOfHost (at : Position) : Type 0 where
  pub places : length at.places ≡ 8
  pub legal : IsLegal at.host.limits at.host.history
  pub few : at.host.limits.builds ≤ 8
  pub each : AreOfEach at.host
