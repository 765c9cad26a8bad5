use Rattle.std.proofs.Common.{◌≡◌, length}
use Rattle.rmm_trace.specs.Access.{after_name}
use Rattle.rmm_trace.proofs.access.after_name.Given as goal

abbrev pub invariant-words : goal.invariant-words
invariant-words l = after_name l.name l.left ≡ after_name l.name l.initial.left

abbrev pub decreases-words : goal.decreases-words
decreases-words l = length l.left
