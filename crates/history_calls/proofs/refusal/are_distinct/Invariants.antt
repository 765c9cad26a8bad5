use Rattle.std.proofs.Common.{◌≡◌, length}
use Rattle.realm_model.specs.Command.Check.{are_distinct}
use Rattle.history_calls.proofs.refusal.are_distinct.Given as goal

abbrev pub invariant-granules : goal.invariant-granules
invariant-granules l = are_distinct l.rest ≡ are_distinct l.granules

abbrev pub decreases-granules : goal.decreases-granules
decreases-granules l = length l.rest
