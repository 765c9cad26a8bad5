use Rattle.std.proofs.Common.{◌≡◌, ℕ, ◌+◌, ◌<◌, true}
use Rattle.rmi_monitor.specs.Places.{is_fit_to_start}
use Rattle.rmi_monitor.proofs.realm.can_all_start.Given as goal

abbrev pub invariant-loop-number : goal.invariant-loop-number
invariant-loop-number l =
    (number : ℕ) → number < l.number → is_fit_to_start l.granules l.tables.rd (l.tables.root.first + number) ≡ true
