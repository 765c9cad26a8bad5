use Rattle.std.proofs.Common.{◌≡◌, drop}
use Rattle.realm_model.specs.History.{events_of}
use Rattle.realm_program.proofs.audit.next_of.Given as goal

-- there is no event of the build from the start of the search to the place reached so far
abbrev pub invariant-loop-place : goal.invariant-loop-place
invariant-loop-place l = events_of l.build (drop l.place l.history) ≡ events_of l.build (drop l.from l.history)
