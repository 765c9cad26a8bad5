use Rattle.std.proofs.Common.{◌≡◌, ◌≤◌, ◌<◌, ℕ, true}
use Rattle.page_arena.specs.Page.{is_free}
use Rattle.page_arena.proofs.plain.flags.is_run_free.Given as goal

abbrev pub invariant-loop-i : goal.invariant-loop-i
invariant-loop-i l = (granule : ℕ) → l.first ≤ granule → granule < l.i → is_free l.flags granule ≡ true
