use Rattle.std.proofs.Common.{◌≡◌, take}
use Rattle.host_commands.proofs.act.auxiliaries_of.Given as goal

abbrev pub invariant-loop-granule : goal.invariant-loop-granule
invariant-loop-granule l = l.auxiliaries.items ≡ take l.granule-index l.granule-items
