use Rattle.std.proofs.Common.{◌≡◌, ◌≤◌, length}
use Rattle.explain.specs.OfRealm.{follow}
use Rattle.explain.proofs.of_realm.follow.Given as goal

abbrev pub invariant-granules : goal.invariant-granules
invariant-granules l = record {
  rest : follow l.next l.rest ≡ follow l.first l.granules;
  low : l.next ≤ 4096;
}

abbrev pub decreases-granules : goal.decreases-granules
decreases-granules l = length l.rest
