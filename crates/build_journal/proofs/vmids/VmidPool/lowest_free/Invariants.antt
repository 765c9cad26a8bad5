use Rattle.std.proofs.Common.{◌≡◌, ℕ, false, ◌<◌}
use Rattle.build_journal.specs.Vmids.{is_free}
use Rattle.build_journal.proofs.vmids.VmidPool.lowest_free.Given as goal

abbrev pub invariant-loop-number : goal.invariant-loop-number
invariant-loop-number l = (vmid : ℕ) → vmid < l.number → is_free l.self vmid ≡ false
