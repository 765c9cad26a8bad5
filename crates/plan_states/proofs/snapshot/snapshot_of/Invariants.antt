use Rattle.std.proofs.Common.{◌≡◌, vec_len}
use Rattle.plan_states.specs.Snapshots.{AreBuildsAt}
use Rattle.plan_states.proofs.snapshot.snapshot_of.Given as goal

abbrev pub invariant-loop-build : goal.invariant-loop-build
invariant-loop-build g l = record {
  long : vec_len l.builds ≡ l.build;
  builds : AreBuildsAt (record { host = l.host; places = l.places }) l.build l.builds.items;
}
