use Rattle.std.proofs.Common.{◌≡◌, take}
use Rattle.plan_states.proofs.snapshot.are_same_events.Given as goal

abbrev pub invariant-loop-place : goal.invariant-loop-place
invariant-loop-place l = take l.place l.one ≡ take l.place l.other
