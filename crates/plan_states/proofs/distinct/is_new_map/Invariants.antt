use Rattle.std.proofs.Common.{ℕ, ◌<◌, ◌≢◌, get_or}
use Rattle.std.specs.Prelude.{string_bytes}
use Rattle.std.specs.declared.alloc.Global.{Global}
use Rattle.std.specs.declared.string.String.{String}
use Rattle.plan_states.proofs.distinct.is_new_map.Given as goal

abbrev pub invariant-loop-before : goal.invariant-loop-before
invariant-loop-before l = (before : ℕ) (d : String Global) → before < l.before → string_bytes (get_or l.maps before d) ≢ string_bytes (get_or l.maps l.place d)
