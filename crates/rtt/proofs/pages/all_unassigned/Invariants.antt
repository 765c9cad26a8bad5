use Rattle.std.proofs.Common.{◌≡◌, ◌<◌, ◌≤◌, ℕ, true}
use Rattle.realm_model.specs.Rows.{is_unassigned}
use Rattle.rtt.specs.Tables.{entries_of}
use Rattle.rtt.proofs.pages.all_unassigned.Given as goal

abbrev pub invariant-loop-index : goal.invariant-loop-index
invariant-loop-index g l =
    (index : ℕ) → l.first ≤ index → index < l.index → is_unassigned (entries_of (g.S.PageStore.page_bytes l.store) l.table index) ≡ true
