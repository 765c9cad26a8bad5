use Rattle.std.proofs.Common.{◌≡◌, ◌+◌, ◌<◌, ℕ, false}
use Rattle.realm_model.specs.Rows.{is_table}
use Rattle.rtt.specs.Tables.{entries_of}
use Rattle.rtt.proofs.tables.Tables.has_no_table_below.Given as goal

abbrev pub invariant-loop-number : goal.invariant-loop-number
invariant-loop-number g l =
    (number index : ℕ) → number < l.number → index < 512 → is_table (entries_of (g.S.PageStore.page_bytes l.store) (l.self.root.first + number) index) ≡ false
