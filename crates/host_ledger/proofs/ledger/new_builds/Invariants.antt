use Rattle.std.proofs.Common.{◌≡◌, replicate}
use Rattle.host_ledger.specs.Kept.{new_build}
use Rattle.host_ledger.proofs.ledger.new_builds.Given as goal

abbrev pub invariant-loop-i : goal.invariant-loop-i
invariant-loop-i l = l.builds.items ≡ replicate l._i new_build
