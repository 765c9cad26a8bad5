use Rattle.std.proofs.Common.{◌≡◌, drop}
use Rattle.rmm_trace.specs.Numbers.{value_after}
use Rattle.rmm_trace.proofs.number.value.Given as goal

abbrev pub invariant-loop-byte : goal.invariant-loop-byte
invariant-loop-byte l = value_after l.base l.value (drop l.byte-index l.digits) ≡ value_after l.base 0 l.digits
