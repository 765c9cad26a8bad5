use Rattle.std.proofs.Common.{◌≡◌, drop}
use Rattle.realm_model.specs.Command.Check.{are_distinct}
use Rattle.rmi_monitor.proofs.places.are_different.Given as goal

abbrev pub invariant-loop-i : goal.invariant-loop-i
invariant-loop-i l = are_distinct (drop l.i l.others) ≡ are_distinct l.others
