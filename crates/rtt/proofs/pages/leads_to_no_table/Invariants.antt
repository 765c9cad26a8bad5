use Rattle.std.proofs.Common.{◌≡◌, ◌<◌, ℕ, false}
use Rattle.realm_model.specs.Rows.{is_table}
use Rattle.rtt.specs.Tables.{entries_of}
use Rattle.rtt.proofs.pages.leads_to_no_table.Given as goal

abbrev pub invariant-loop-index : goal.invariant-loop-index
invariant-loop-index g l =
    (index : ℕ) → index < l.index → is_table (entries_of (g.S.PageStore.page_bytes l.store) l.table index) ≡ false
