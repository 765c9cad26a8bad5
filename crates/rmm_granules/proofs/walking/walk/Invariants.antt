use Rattle.std.proofs.Common.{◌≡◌, ◌<◌, ◌-◌}
use Rattle.rmm_model.specs.Machine.{granule_count}
use Rattle.rmm_model.specs.Walk.{walk_from, start_of}
use Rattle.rmm_granules.proofs.walking.walk.Given as goal

abbrev pub invariant-levels : goal.invariant-levels
invariant-levels g l = record {
  goes_on : walk_from l.granules l.ipa (l.to - l.level) (record { table = l.table; level = l.level }) ≡ walk_from l.granules l.ipa (l.to - l.fn.realm.start_level) (start_of l.fn.realm l.ipa);
  inside : l.table < granule_count l.granules;
}

abbrev pub decreases-levels : goal.decreases-levels
decreases-levels g l = l.to - l.level
